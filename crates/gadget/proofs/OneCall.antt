-- Calls on one folder have one answer: by one schedule in one state wholly, by others but for the trace file.
use Rattle.std.proofs.Common.{◌≡◌, ◌⊎◌, ℕ, Bool, true, false, IsTrue, List, Option, Some, inl, inr, refl, sym, ap, subst, ◌∙◌}
use Rattle.store_io.specs.Sinks.{Follows}
use Rattle.nbody_model.specs.Bodies.{BodyData}
use Rattle.nbody_model.specs.Passes.{PassesAll}
use Rattle.nbody_model.specs.Session.{SessionData, asked}
use Rattle.nbody_model.specs.States.{StateData}
use Rattle.nbody_model.specs.Tables.{Gravity}
use Rattle.param_file.specs.Settings.{setup_of}
use Rattle.rank_field.specs.Fields.{IsPlayedAmong}
use Rattle.run_session.specs.Own.{own_files}
use Rattle.run_session.specs.Worlds.{World}
use Rattle.gadget.specs.declared.status.Status.{Status}
use Rattle.gadget.specs.declared.status.Status.TheVariants.{Usage}
use Rattle.gadget.specs.declared.outcome.Outcome.{Outcome}
use Rattle.gadget.specs.Commands.{Asked, nothing, run, resume, check, show, make, groups, links}
use Rattle.gadget.specs.Outcomes.{status_of, text_of}
use Rattle.gadget.specs.Making.{MakeDoes}
use Rattle.gadget.specs.Grouping.{GroupsDoes}
use Rattle.gadget.specs.Linking.{LinksDoes}
use Rattle.gadget.specs.Inputs.{InputsData}
use Rattle.gadget.specs.Begins.{BeginsWith, GoesOnFrom, first_state}
use Rattle.gadget.specs.Answers.{CheckDoes, Console, Does, Edge, Order, Prints, ShowDoes, seeded_by}
use Rattle.gadget.specs.Reads.{seen}
use Rattle.gadget.specs.Decided.{AnswersAreExact, FindOneFolder, HaveOneOrder, IsDecided, IsOneAnswer}
use Rattle.gadget.specs.Headline.{EndsAs, LookAlike, NoRanksShowInResumed, NoRanksShowInRuns, Report, TracesResumed, TracesRun}
use Rattle.gadget.proofs.OneAnswer.{AreAlike, BothGive, Same, Start, at_once, check_one, resume_one, run_one, show_one}
use Rattle.gadget.proofs.OneEnd.{events_one, leaves_alike, leaves_one}
use Rattle.gadget.proofs.OneMaking.{make_one}
use Rattle.gadget.proofs.OneGrouping.{grouping_one}
use Rattle.gadget.proofs.OneLinking.{linking_one}

-- ---- by one schedule

one_leaves : (resumed : Bool) (n : ℕ) (x : Start) (d e : Edge) → FindOneFolder d e → HaveOneOrder d e → BothGive (Same d.new e.new) resumed n n x d e
one_leaves resumed n x d e one order done z h k =
    let p = x.0.params in
    let g : Gravity = record { setup = setup_of p; table = x.0.table } in
    let a = (seeded_by d p.delivery_seed).state in
    let b = (seeded_by e p.delivery_seed).state in
    let starts : a ≡ b = λ i. (sym order.order i).seeded (sym order.state i) p.delivery_seed in
    let found = subst (λ (o : Order). PassesAll (IsPlayedAmong o.picks g n) (asked z) b k.events e.new.state) order.order k.found in
    let events = events_one d.order.picks g n (asked z) a b d.new.state e.new.state h.events k.events starts h.found found in
    leaves_one p (own_files p resumed x.1) z h.events k.events done d.old.files e.old.files d.new.files e.new.files d.old.closed d.new.closed e.old.closed e.new.closed
    (sym one.files) events (h.files one.first) (k.files one.second)

as_one : (Y Z : World) (o q : Outcome) → AreAlike (Same Y Z) o q → IsOneAnswer Y Z o q
as_one Y Z o q h = record { status = h.status; text = h.text; files = h.files }

pub answers_exact : AnswersAreExact
answers_exact nothing d e o q one order h k i j = as_one d.new e.new o q (at_once d.old d.new e.old e.new o q Usage one.files h k)
answers_exact (run param n) d e o q one order h k i j =
    as_one d.new e.new o q (run_one (Same d.new e.new) n n d e param o q one (λ f. f) (λ i C b. one_leaves false n (i, first_state C) d e one order) h k i j)
answers_exact (resume param restart n) d e o q one order h k i j =
    as_one d.new e.new o q (resume_one (Same d.new e.new) n n d e param restart o q one (λ f. f) (λ i σ b. one_leaves true n (i, σ) d e one order) h k i j)
answers_exact (check param) d e o q one order h k i j =
    as_one d.new e.new o q (check_one d.old d.new e.old e.new param o q one.files
    (subst (λ t. CheckDoes (seen t d.old d.new) param o) one.first h.0) (subst (λ t. CheckDoes (seen t e.old e.new) param q) one.second k.0) h.1 k.1 i j)
answers_exact (show name) d e o q one order h k i j =
    as_one d.new e.new o q (show_one d.old d.new e.old e.new name o q one.files
    (subst (λ t. ShowDoes (seen t d.old d.new) name o) one.first h.0) (subst (λ t. ShowDoes (seen t e.old e.new) name q) one.second k.0) h.1 k.1 i j)
answers_exact (make count seed name) d e o q one order h k i j =
    make_one d.old d.new e.old e.new count seed name o q one.files
    (subst (λ t. MakeDoes t d.old d.new count seed name o) one.first h.0) (subst (λ t. MakeDoes t e.old e.new count seed name q) one.second k.0) i j
answers_exact (groups snapshot reach least name) d e o q one order h k i j =
    grouping_one d.old d.new e.old e.new snapshot reach least name o q one.files
    (subst (λ t. GroupsDoes t d.old d.new snapshot reach least name o) one.first h.0) (subst (λ t. GroupsDoes t e.old e.new snapshot reach least name q) one.second k.0) i j
answers_exact (links first second name) d e o q one order h k i j =
    linking_one d.old d.new e.old e.new first second name o q one.files
    (subst (λ t. LinksDoes t d.old d.new first second name o) one.first h.0) (subst (λ t. LinksDoes t e.old e.new first second name q) one.second k.0) i j

-- ---- by any

-- the same files, but for those of some names
abbrev SameBut : (List ℕ → Type 0) → World → World → Type 0
SameBut Hidden Y Z = (n : List ℕ) → (Y.files n ≡ Z.files n) ⊎ Hidden n

alike_leaves : (Hidden : List ℕ → Type 0) (resumed : Bool) (n m : ℕ) (x : Start) (d e : Edge) → FindOneFolder d e
    → ((name : List ℕ) → (own_files x.0.params resumed x.1).trace ≡ Some name → Hidden name) → BothGive (SameBut Hidden d.new e.new) resumed n m x d e
alike_leaves Hidden resumed n m x d e one hides done z h k name =
    let p = x.0.params in
    elim (leaves_alike p (own_files p resumed x.1) z h.events k.events done d.old.files e.old.files d.new.files e.new.files d.old.closed d.new.closed e.old.closed e.new.closed
    (sym one.files) (h.files one.first) (k.files one.second) name) [ inl same ↦ inl same | inr traced ↦ inr (hides name traced) ]

-- where an answer is decided, its line was printed
pub record IsSaid (o : Outcome) (x : Report) : Type 0 where
  pub is : x.answer ≡ status_of o
  pub printed : Follows x.said.old.written x.said.new.written (text_of o)
  pub decided : IsDecided (status_of o)

pub said : (o : Outcome) (x : Report) → Prints (status_of o) (text_of o) x.said.old x.said.new x.answer → IsDecided x.answer → IsSaid o x
said o x (inl p) i = record { is = p.is; printed = p.printed; decided = subst IsDecided p.is i }
said o x (inr (inl b)) i = absurd (subst IsDecided b.is i)
said o x (inr (inr m)) i = absurd (subst IsDecided m i)

looks : (Hidden : List ℕ → Type 0) (x y : Report) (o q : Outcome) → IsSaid o x → IsSaid q y → AreAlike (SameBut Hidden x.edge.new y.edge.new) o q → LookAlike Hidden x y
looks Hidden x y o q h k a = record {
  status = h.is ∙ a.status ∙ sym k.is;
  text = text_of o;
  first = h.printed;
  second = subst (λ t. Follows y.said.old.written y.said.new.written t) (sym a.text) k.printed;
  files = a.files;
}

pub none_show_in_runs : NoRanksShowInRuns
none_show_in_runs param n m x y one h k i j =
    let Hidden : List ℕ → Type 0 = TracesRun x.edge.old.files param in
    let s = said h.outcome x h.prints i in
    let t = said k.outcome y k.prints j in
    looks Hidden x y h.outcome k.outcome s t
    (run_one (SameBut Hidden x.edge.new y.edge.new) n m x.edge y.edge param h.outcome k.outcome one (λ f name. inl (f name))
    (λ inputs C b. alike_leaves Hidden false n m (inputs, first_state C) x.edge y.edge one (λ name e. record { inputs = inputs; bodies = C; accepted = b; named = e }))
    h.does k.does s.decided t.decided)

pub none_show_in_resumed : NoRanksShowInResumed
none_show_in_resumed param restart n m x y one h k i j =
    let Hidden : List ℕ → Type 0 = TracesResumed x.edge.old.files param restart in
    let s = said h.outcome x h.prints i in
    let t = said k.outcome y k.prints j in
    looks Hidden x y h.outcome k.outcome s t
    (resume_one (SameBut Hidden x.edge.new y.edge.new) n m x.edge y.edge param restart h.outcome k.outcome one (λ f name. inl (f name))
    (λ inputs σ b. alike_leaves Hidden true n m (inputs, σ) x.edge y.edge one (λ name e. record { inputs = inputs; state = σ; accepted = b; named = e }))
    h.does k.does s.decided t.decided)
