-- The first fault behind a scan and the checks after it, and what is spelled where there is none.
use Rattle.std.proofs.Common.{◌≡◌, ℕ, ◌≤◌, List, [], None, Ok, Err, subst, ◌⊎◌, inl, inr}
use Rattle.text_words.specs.Comments.{Line}
use Rattle.param_file.specs.Checks.{AreApart, Gives, IsAccepted, IsBinFault, IsClashFault, IsMissingFault}
use Rattle.param_file.specs.Known.{scan}
use Rattle.param_file.specs.Reading.{Said, missing, number_of_row, IsFirstFault, Spell}
use Rattle.param_file.specs.Settings.{ParamsData, IsParams}
use Rattle.param_file.specs.declared.errors.ParamKind.{ParamKind}
use Rattle.param_file.specs.declared.errors.ParamKind.TheVariants.{Memory}
use Rattle.param_file.specs.declared.names.ParamName.TheVariants.{LowBin, TopBin}
use Rattle.param_file.proofs.Fits.{scan_fits}
use Rattle.param_file.proofs.Scans.{scan_ok, scan_err}

pub line_fault : (lines : List Line) (line : ℕ) (kind : ParamKind) → (kind ≡ Memory) ⊎ (scan 0 [] lines ≡ Err (line, kind)) → (kind ≡ Memory) ⊎ IsFirstFault lines line kind
line_fault lines line kind (inl m) = inl m
line_fault lines line kind (inr e) = inr (inl (scan_err lines line kind e))

pub missing_fault : (lines : List Line) (known : List Said) (line : ℕ) (kind : ParamKind) → scan 0 [] lines ≡ Ok known → IsMissingFault known line kind → IsFirstFault lines line kind
missing_fault lines known line kind e f =
    let ok = scan_ok lines known e in
    let g = subst (λ k. IsMissingFault k line kind) ok.1 f in
    inr (inl (record { good = ok.0; row = g.row; first = g.first; counted = g.counted; is = g.is }))

pub bin_fault : (lines : List Line) (known : List Said) (line : ℕ) (kind : ParamKind) → scan 0 [] lines ≡ Ok known → missing known ≡ None → IsBinFault known line kind → IsFirstFault lines line kind
bin_fault lines known line kind e m f =
    let ok = scan_ok lines known e in
    let g = subst (λ k. IsBinFault k line kind) ok.1 f in
    inr (inr (inl (record { good = ok.0; complete = subst (λ k. missing k ≡ None) ok.1 m; crossed = g.crossed; counted = g.counted; is = g.is })))

pub clash_fault : (lines : List Line) (known : List Said) (line : ℕ) (kind : ParamKind) → scan 0 [] lines ≡ Ok known → missing known ≡ None
    → number_of_row known LowBin ≤ number_of_row known TopBin → IsClashFault known line kind → IsFirstFault lines line kind
clash_fault lines known line kind e m o f =
    let ok = scan_ok lines known e in
    let g = subst (λ k. IsClashFault k line kind) ok.1 f in
    inr (inr (inr (record {
      good = ok.0;
      complete = subst (λ k. missing k ≡ None) ok.1 m;
      ordered = subst (λ k. number_of_row k LowBin ≤ number_of_row k TopBin) ok.1 o;
      first_row = g.first_row;
      second_row = g.second_row;
      first = g.first;
      counted = g.counted;
      is = g.is;
    })))

pub accepted : (lines : List Line) (known : List Said) → scan 0 [] lines ≡ Ok known → missing known ≡ None
    → number_of_row known LowBin ≤ number_of_row known TopBin → AreApart known → IsAccepted known
accepted lines known e m o a = record { fits = scan_fits lines known e; complete = m; ordered = o; apart = a }

pub spelled : (lines : List Line) (known : List Said) (p : ParamsData) → scan 0 [] lines ≡ Ok known → Gives known p → IsParams p → Spell lines p
spelled lines known p e g is =
    let ok = scan_ok lines known e in
    let h = subst (λ k. Gives k p) ok.1 g in
    record { good = ok.0; values = h.values; accepted = is }
