use Rattle.std.proofs.Common.{◌≡◌, take}
use Rattle.std.specs.List.{flat_map}
use Rattle.gadget.specs.LinkTexts.{link_text}
use Rattle.gadget.proofs.link_texts.links_text.Given as goal

abbrev pub invariant-loop-link : goal.invariant-loop-link
invariant-loop-link l = l.text.items ≡ flat_map link_text (take l.link-index l.list)
