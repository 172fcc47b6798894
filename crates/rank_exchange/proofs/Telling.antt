-- What a post tells of a cell is true.
use Rattle.std.proofs.Common.{◌≡◌, ◌≢◌, ℕ, Bool, true, false, eqb, ◌&&◌, refl, ap, sym, ◌∙◌, subst}
use Rattle.std.specs.Prelude.{None, Option, Some, nat_le}
use Rattle.std.proofs.lemmas.Bool.{eq-eqb, eqb-true}
use Rattle.cell_space.specs.Cells.{CellData}
use Rattle.hilbert_keys.specs.Curve.{first_key}
use Rattle.home_cells.specs.Found.{IsHomeTable, IsTable}
use Rattle.rank_curve_laws.specs.Along.{keys_along}
use Rattle.rank_laws.specs.Contents.{EntryData, reply_sent}
use Rattle.rank_laws.specs.Homes.{home, in_span}
use Rattle.rank_walk.specs.declared.told.Known.{Known}
use Rattle.rank_walk.specs.Seats.{IsKnown, IsTold, Seat, Stands}
use Rattle.rank_exchange.specs.declared.post.Post.{Post}
use Rattle.rank_exchange.specs.Posts.{Answers, Asks, IsKnownAt, Serves}

module _ (p : Post) (c : CellData) (h : ℕ) (z : Seat) (a : Asks p c h z) where
  -- a cell of the rank itself
  module _ (e : h ≡ p.number) where
    here : home z.whole.keys c ≡ z.rank
    here = sym a.home ∙ e ∙ a.post.number

    pub home_table : IsHomeTable z.whole p.table.now c
    home_table = record { table = subst (λ r. IsTable z.whole r p.table.now) (sym here) a.post.table }

    pub home_answers : (x : Option EntryData) → x ≡ reply_sent z.whole c → Answers z c x
    home_answers x f = record { whole = a.post.table.whole; softenings = a.post.table.softenings; standing = a.standing; is = f }

    pub known_here : (k : Known) → IsKnown z c k → IsKnownAt z c (Some k)
    known_here k f = record { here = sym (eq-eqb (home z.whole.keys c) z.rank here); known = f }

  -- a cell of another home
  pub unknown_here : h ≢ p.number → IsKnownAt z c None
  unknown_here n = record { here = sym (ap (λ t. eqb t z.rank) (sym a.home) ∙ ap (eqb h) (sym a.post.number) ∙ by (eqb h p.number) refl); known = tt }
    where
      by : (b : Bool) → eqb h p.number ≡ b → b ≡ false
      by true e = absurd (n (eqb-true h p.number e))
      by false e = refl

pub asks : (p : Post) (z : Seat) → Serves p z → (c : CellData) → Stands c z → (h : ℕ) → h ≡ home (keys_along p.bounds.now) c → Asks p c h z
asks p z v c s h e = record { post = v; standing = s; home = e ∙ ap (λ t. home t c) (sym v.keys) }

-- all that is told
pub tells : (p : Post) (z : Seat) → Serves p z → (c : CellData) (from h first : ℕ) (k : Option Known) → h ≡ home (keys_along p.bounds.now) c → ((r : ℕ) → in_span (keys_along p.bounds.now) r c ≡ (nat_le from r && nat_le r h)) →
    first ≡ first_key c → (mine : Bool) → mine ≡ (nat_le from p.number && nat_le p.number h) → IsKnownAt z c k → IsTold z c (record { known = k; mine = mine; home = h; first = first })
tells p z v c from h first k e span f mine m known = record {
  here = known.here;
  known = known.known;
  mine = m ∙ sym (span p.number) ∙ (λ i. in_span (sym v.keys i) (v.number i) c);
  home = e ∙ ap (λ t. home t c) (sym v.keys);
  first = f ∙ sym (ap (λ t. t.first c) v.keys);
}
