use Rattle.std.proofs.Common.{◌≡◌, ℕ, List, Result, Ok, Err, IfErr, sym, subst, ◌⊎◌, inl, inr}
use Rattle.std.proofs.lemmas.Result.{IfOk-weaker}
use Rattle.text_words.specs.Comments.{Line, lines_in}
use Rattle.param_file.specs.Reading.{IsFirstFault, Spell}
use Rattle.param_file.specs.declared.errors.ParamErr.{ParamErr}
use Rattle.param_file.specs.declared.errors.ParamKind.{ParamKind}
use Rattle.param_file.specs.declared.errors.ParamKind.TheVariants.{Memory}
use Rattle.param_file.proofs.OneReading.{one_value, no_fault}
use Rattle.param_file.proofs.writer.written_and_read.Goals as goal

memory_alone : {T : Type 0} (lines : List Line) (r : Result T ParamErr) → ((line : ℕ) (kind : ParamKind) → IsFirstFault lines line kind → ⊥)
    → IfErr r (λ e. (e.kind ≡ Memory) ⊎ IsFirstFault lines e.line e.kind) → IfErr r (λ e. e.kind ≡ Memory)
memory_alone lines (Ok x) never h = tt
memory_alone lines (Err e) never (inl m) = m
memory_alone lines (Err e) never (inr f) = absurd (never e.line e.kind f)

pub returns-clause-same : goal.returns-clause-same
returns-clause-same c =
    let s = subst (λ xs. Spell (lines_in xs) c.args.params.now) (sym c.deref.ensures.value) c.in_ok-bytes.ensures.spells in
    IfOk-weaker c.read_params.result _ _ (λ q h. one_value (lines_in c.deref.result.now) q c.args.params.now h s) c.read_params.ensures.ok

pub returns-clause-err : goal.returns-clause-err
returns-clause-err c =
    let s = subst (λ xs. Spell (lines_in xs) c.args.params.now) (sym c.deref.ensures.value) c.in_ok-bytes.ensures.spells in
    memory_alone (lines_in c.deref.result.now) c.read_params.result (λ line kind. no_fault (lines_in c.deref.result.now) c.args.params.now line kind s) c.read_params.ensures.err
