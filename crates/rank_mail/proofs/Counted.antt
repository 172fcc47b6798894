-- Messages in blocks, counted and taken out.
use Rattle.std.proofs.Common.{◌≡◌, ℕ, ◌+◌, ◌-◌, ◌<◌, ◌≤◌, ◌^◌, Bool, true, false, cond, zero, List, [], ◌∷◌, ◌++◌, length, take, drop, set, get_or, Some, refl, sym, ap, subst, ◌∙◌, arith, suc}
use Rattle.std.specs.List.{AllByRecursion, remove}
use Rattle.std.proofs.lemmas.List.{take-append-drop, drop_more, set_split, get_or-append-add, get_or_append_left, take-append-le, length-append, take_more_set, drop_all, append-nil, append_assoc}
use Rattle.std.proofs.lemmas.List.Edits.{length-remove, remove-append_left, remove-append_right}
use Rattle.std.proofs.lemmas.List.Sums.{sum_by-append, sum_by-cons, sum_by_push, sum_by-remove, sum_by-set, count_by-le-length}
use Rattle.std.proofs.lemmas.List.Folds.{length-flat_map-take}
use Rattle.std.proofs.lemmas.Grind.{flat_map-append}
use Rattle.std.proofs.lemmas.Option.{slice_get_within, slice_get-get_or, get_or_from_slice_get}
use Rattle.std.proofs.Math.Seq.{take-append-add}
use Rattle.rank_exchange.specs.Messages.{MessageData}
use Rattle.rank_mail.specs.Mails.{IsTaken, MailData, how_many, may_come}
use Rattle.rank_mail.specs.Blocks.{AreCounted, BlockData, IsCounted, IsWithin, messages_in, coming_in}

-- counted blocks together have as many as their messages
pub coming_all : (ready : List Bool) (bs : List BlockData) → AllByRecursion (IsCounted ready) bs → coming_in bs ≡ how_many ready (messages_in bs)
coming_all ready [] h = refl
coming_all ready (b ∷ bs) h =
    let e : coming_in (b ∷ bs) ≡ b.coming + coming_in bs = sum_by-cons (λ (b : BlockData). b.coming) b bs in
    let f : how_many ready (messages_in (b ∷ bs)) ≡ how_many ready b.messages + how_many ready (messages_in bs) = sum_by-append (λ m. cond {A = ℕ} (may_come ready m) 1 0) b.messages (messages_in bs) in
    omega (arith, e, f, h.0, coming_all ready bs h.1)

-- the first of some blocks are counted if all are
pub counted_first : (ready : List Bool) (n : ℕ) (bs : List BlockData) → AllByRecursion (IsCounted ready) bs → AllByRecursion (IsCounted ready) (take n bs)
counted_first ready zero bs h = tt
counted_first ready (suc n) [] h = tt
counted_first ready (suc n) (b ∷ bs) h = (h.0, counted_first ready n bs h.1)

-- the block at a place is counted
pub counted_at : (ready : List Bool) (bs : List BlockData) (at : ℕ) (d : BlockData) → at < length bs → AllByRecursion (IsCounted ready) bs → IsCounted ready (get_or bs at d)
counted_at ready [] at d l h = absurd (omega (arith, l))
counted_at ready (b ∷ bs) zero d l h = h.0
counted_at ready (b ∷ bs) (suc at) d l h = counted_at ready bs at d (omega (arith, l)) h.1

-- and so are all with another block there
pub counted_set : (ready : List Bool) (bs : List BlockData) (at : ℕ) (b : BlockData) → IsCounted ready b → AllByRecursion (IsCounted ready) bs → AllByRecursion (IsCounted ready) (set bs at b)
counted_set ready [] at b e h = tt
counted_set ready (x ∷ bs) zero b e h = (e, h.1)
counted_set ready (x ∷ bs) (suc at) b e h = (h.0, counted_set ready bs at b e h.1)

-- the messages before a block, its own, and those behind it
pub parted : (bs : List BlockData) (at : ℕ) (d : BlockData) → at < length bs → messages_in bs ≡ messages_in (take at bs) ++ ((get_or bs at d).messages ++ messages_in (drop (at + 1) bs))
parted bs at d l =
    ap messages_in (sym (take-append-drop at bs)) ∙ flat_map-append (λ (b : BlockData). b.messages) (take at bs) (drop at bs)
    ∙ ap (λ t. messages_in (take at bs) ++ messages_in t) (drop_more bs at d l)

pub parted_set : (bs : List BlockData) (at : ℕ) (b : BlockData) → at < length bs → messages_in (set bs at b) ≡ messages_in (take at bs) ++ (b.messages ++ messages_in (drop (at + 1) bs))
parted_set bs at b l =
    let n : suc at ≡ at + 1 = omega arith in
    ap messages_in (set_split bs at b l) ∙ flat_map-append (λ (b : BlockData). b.messages) (take at bs) (b ∷ drop (suc at) bs)
    ∙ ap (λ (n : ℕ). messages_in (take at bs) ++ (b.messages ++ messages_in (drop n bs))) n

-- a message that is taken out of some is taken out of all
pub taken_within : (ready : List Bool) (front xs back ys : List MessageData) (k : ℕ) (m : MessageData) → IsTaken ready k xs m ys → IsTaken ready (how_many ready front + k) (front ++ (xs ++ back)) m (front ++ (ys ++ back))
taken_within ready front xs back ys k m t =
    let l : t.place < length xs = slice_get_within xs t.place m t.there in
    let all : length front + t.place < length (front ++ (xs ++ back)) = omega (arith, l, length-append front (xs ++ back), length-append xs back) in
    record {
      place = length front + t.place;
      there = slice_get-get_or (front ++ (xs ++ back)) (length front + t.place) m all ∙ ap Some (get_or-append-add front (xs ++ back) t.place m ∙ get_or_append_left xs back m t.place l ∙ get_or_from_slice_get xs t.place m m t.there);
      comes = t.comes;
      number = ap (how_many ready) (take-append-add front (xs ++ back) t.place ∙ ap (λ s. front ++ s) (take-append-le t.place xs back (omega (arith, l)))) ∙ sum_by-append (λ m. cond {A = ℕ} (may_come ready m) 1 0) front (take t.place xs) ∙ ap (λ n. how_many ready front + n) t.number;
      left = ap (λ s. front ++ (s ++ back)) t.left ∙ ap (λ s. front ++ s) (sym (remove-append_left xs back t.place l)) ∙ sym (removed front (xs ++ back) t.place);
    }
  where
    removed : (ps qs : List MessageData) (n : ℕ) → remove (ps ++ qs) (length ps + n) ≡ ps ++ remove qs n
    removed ps qs n =
        let e : length ps + n - length ps ≡ n = omega arith in
        remove-append_right ps qs (length ps) (length ps + n) refl (omega arith) ∙ ap (λ i. ps ++ remove qs i) e

-- where all messages may come, the one of a number stands at that place
pub all_come : (ready : List Bool) (xs : List MessageData) (k : ℕ) (d : MessageData) → how_many ready xs ≡ length xs → k < length xs → (may_come ready (get_or xs k d) ≡ true) × (how_many ready (take k xs) ≡ k)
all_come ready [] k d e l = absurd (omega (arith, l))
all_come ready (x ∷ xs) k d e l = by_test (may_come ready x) refl k l (all_come ready xs)
  where
    few : how_many ready xs ≤ length xs
    few = count_by-le-length (may_come ready) xs

    one : how_many ready (x ∷ xs) ≡ cond {A = ℕ} (may_come ready x) 1 0 + how_many ready xs
    one = sum_by-cons (λ m. cond {A = ℕ} (may_come ready m) 1 0) x xs

    by_test : (b : Bool) → may_come ready x ≡ b → (k : ℕ) → k < suc (length xs) → ((k : ℕ) (d : MessageData) → how_many ready xs ≡ length xs → k < length xs → (may_come ready (get_or xs k d) ≡ true) × (how_many ready (take k xs) ≡ k)) → (may_come ready (get_or (x ∷ xs) k d) ≡ true) × (how_many ready (take k (x ∷ xs)) ≡ k)
    by_test false t k l rest = absurd (omega (arith, few, e, one, ap (λ b. cond {A = ℕ} b 1 0) t))
    by_test true t zero l rest = (t, refl)
    by_test true t (suc k) l rest =
        let c : cond {A = ℕ} (may_come ready x) 1 0 ≡ 1 = ap (λ b. cond {A = ℕ} b 1 0) t in
        let h = rest k d (omega (arith, e, one, c)) (omega (arith, l)) in
        let f : how_many ready (take (suc k) (x ∷ xs)) ≡ cond {A = ℕ} (may_come ready x) 1 0 + how_many ready (take k xs) = sum_by-cons (λ m. cond {A = ℕ} (may_come ready m) 1 0) x (take k xs) in
        (h.0, omega (arith, h.1, f, c))

-- a message at a place of those that may come is taken
pub taken_at : (ready : List Bool) (k place : ℕ) (xs ys : List MessageData) (m : MessageData) → place < length xs → may_come ready m ≡ true → how_many ready (take place xs) ≡ k → m ≡ get_or xs place m → ys ≡ remove xs place → IsTaken ready k xs m ys
taken_at ready k place xs ys m l c n e r = record { place = place; there = slice_get-get_or xs place m l ∙ ap Some (sym e); comes = c; number = n; left = r }

-- then one fewer may come
pub one_fewer : (ready : List Bool) (k n : ℕ) (xs ys : List MessageData) (m : MessageData) → IsTaken ready k xs m ys → n ≡ how_many ready xs → n - 1 ≡ how_many ready ys
one_fewer ready k n xs ys m t e =
    let l : t.place < length xs = slice_get_within xs t.place m t.there in
    let s = sum_by-remove (λ m. cond {A = ℕ} (may_come ready m) 1 0) xs t.place m l in
    let g : cond {A = ℕ} (may_come ready (get_or xs t.place m)) 1 0 ≡ 1 = ap (λ (x : MessageData). cond {A = ℕ} (may_come ready x) 1 0) (get_or_from_slice_get xs t.place m m t.there) ∙ ap (λ b. cond {A = ℕ} b 1 0) t.comes in
    omega (arith, s, g, e, ap (how_many ready) t.left)

-- taken out of the block that has it, a message is taken out of all
pub taken_block : (ready : List Bool) (bs : List BlockData) (k at left : ℕ) (m : MessageData) (b : BlockData) → AllByRecursion (IsCounted ready) bs → IsWithin bs k at left → ((d : BlockData) → IsTaken ready left (get_or bs at d).messages m b.messages) → IsTaken ready k (messages_in bs) m (messages_in (set bs at b))
taken_block ready bs k at left m b h w t =
    let n : how_many ready (messages_in (take at bs)) + left ≡ k = omega (arith, coming_all ready (take at bs) (counted_first ready at bs h), w.before) in
    let all = taken_within ready (messages_in (take at bs)) (get_or bs at b).messages (messages_in (drop (at + 1) bs)) b.messages left m (t b) in
    subst (λ xs. IsTaken ready k xs m (messages_in (set bs at b))) (sym (parted bs at b w.within))
    (subst (λ ys. IsTaken ready k (messages_in (take at bs) ++ ((get_or bs at b).messages ++ messages_in (drop (at + 1) bs))) m ys) (sym (parted_set bs at b w.within))
    (subst (λ n. IsTaken ready n (messages_in (take at bs) ++ ((get_or bs at b).messages ++ messages_in (drop (at + 1) bs))) m (messages_in (take at bs) ++ (b.messages ++ messages_in (drop (at + 1) bs)))) n all))

-- and of them all one fewer may come
pub fewer_in : (ready : List Bool) (bs : List BlockData) (at : ℕ) (b : BlockData) → at < length bs → ((d : BlockData) → b.coming + 1 ≡ (get_or bs at d).coming) → coming_in (set bs at b) + 1 ≡ coming_in bs
fewer_in ready bs at b l e =
    let s : coming_in (set bs at b) + (get_or bs at b).coming ≡ coming_in bs + b.coming = sum_by-set (λ (b : BlockData). b.coming) bs at b b l in
    omega (arith, s, e b)

-- counted blocks with one more behind them are counted
pub counted_push : (ready : List Bool) (bs : List BlockData) (b : BlockData) → AllByRecursion (IsCounted ready) bs → IsCounted ready b → AllByRecursion (IsCounted ready) (bs ++ b ∷ [])
counted_push ready [] b h e = (e, tt)
counted_push ready (x ∷ bs) b h e = (h.0, counted_push ready bs b h.1 e)

-- a block with the same messages in the place of another leaves the messages of all
pub same_in : (bs : List BlockData) (at : ℕ) (b : BlockData) → at < length bs → ((d : BlockData) → b.messages ≡ (get_or bs at d).messages) → messages_in (set bs at b) ≡ messages_in bs
same_in bs at b l e = parted_set bs at b l ∙ ap (λ xs. messages_in (take at bs) ++ (xs ++ messages_in (drop (at + 1) bs))) (e b) ∙ sym (parted bs at b l)

-- the first blocks are counted again, up to this one
pub counted_more : (ready : List Bool) (bs : List BlockData) (at : ℕ) (b : BlockData) → at < length bs → AllByRecursion (IsCounted ready) (take at bs) → IsCounted ready b → AllByRecursion (IsCounted ready) (take (at + 1) (set bs at b))
counted_more ready bs at b l h e = subst (AllByRecursion (IsCounted ready)) (sym (take_more_set bs at b l)) (counted_push ready (take at bs) b h e)

pub coming_more : (bs : List BlockData) (at : ℕ) (b : BlockData) → at < length bs → coming_in (take (at + 1) (set bs at b)) ≡ coming_in (take at bs) + b.coming
coming_more bs at b l = ap coming_in (take_more_set bs at b l) ∙ sum_by_push (λ (b : BlockData). b.coming) (take at bs) b

-- and no more may come than there are
pub coming_fits : (ready : List Bool) (bs : List BlockData) (at : ℕ) (b : BlockData) → at < length bs → AllByRecursion (IsCounted ready) (take at bs) → IsCounted ready b → ((d : BlockData) → b.messages ≡ (get_or bs at d).messages) → coming_in (take at bs) + b.coming ≤ length (messages_in bs)
coming_fits ready bs at b l h e s =
    let f : how_many ready (messages_in (take at bs)) ≤ length (messages_in (take at bs)) = count_by-le-length (may_come ready) (messages_in (take at bs)) in
    let g : how_many ready b.messages ≤ length b.messages = count_by-le-length (may_come ready) b.messages in
    omega (arith, f, g, e, coming_all ready (take at bs) h, length-flat_map-take (λ (b : BlockData). b.messages) bs at b l, ap {A = List MessageData} length (s b))

-- one message fewer is left
pub one_left : (ready : List Bool) (k : ℕ) (xs ys : List MessageData) (m : MessageData) → IsTaken ready k xs m ys → length ys + 1 ≡ length xs
one_left ready k xs ys m t =
    let l : t.place < length xs = slice_get_within xs t.place m t.there in
    ap (λ (zs : List MessageData). length zs + 1) t.left ∙ length-remove xs t.place l

-- a number of a message that may come, said of the mail, is one of its blocks
pub in_blocks : (v : MailData) (ready : List Bool) (bs : List BlockData) (k : ℕ) → record { messages = messages_in bs; ready = ready } ≡ v → AllByRecursion (IsCounted ready) bs → k < how_many v.ready v.messages → k < coming_in bs
in_blocks v ready bs k e h l = subst (λ n. k < n) (sym (coming_all ready bs h)) (subst (λ (v : MailData). k < how_many v.ready v.messages) (sym e) l)

-- counted blocks of the same messages have as many that may come
pub coming_same : (ready : List Bool) (bs ds : List BlockData) → AllByRecursion (IsCounted ready) bs → AllByRecursion (IsCounted ready) ds → messages_in ds ≡ messages_in bs → coming_in ds ≡ coming_in bs
coming_same ready bs ds h g e = coming_all ready ds g ∙ ap (how_many ready) e ∙ sym (coming_all ready bs h)

-- and of one message more, one more if that may come
pub coming_with : (ready : List Bool) (bs ds : List BlockData) (m : MessageData) → AllByRecursion (IsCounted ready) bs → AllByRecursion (IsCounted ready) ds → messages_in ds ≡ messages_in bs ++ m ∷ [] → coming_in ds ≡ coming_in bs + cond (may_come ready m) 1 0
coming_with ready bs ds m h g e =
    let p : how_many ready (messages_in bs ++ m ∷ []) ≡ how_many ready (messages_in bs) + cond (may_come ready m) 1 0 = sum_by_push (λ m. cond {A = ℕ} (may_come ready m) 1 0) (messages_in bs) m in
    coming_all ready ds g ∙ ap (how_many ready) e ∙ p ∙ ap (λ n. n + cond (may_come ready m) 1 0) (sym (coming_all ready bs h))

-- no more may come than there are
pub coming_few : (ready : List Bool) (bs : List BlockData) → AllByRecursion (IsCounted ready) bs → coming_in bs ≤ length (messages_in bs)
coming_few ready bs h = subst (λ n. n ≤ length (messages_in bs)) (sym (coming_all ready bs h)) (count_by-le-length (may_come ready) (messages_in bs))

-- a message put into the last block stands behind all
pub put_in : (bs : List BlockData) (last : ℕ) (b : BlockData) (m : MessageData) → last + 1 ≡ length bs → ((d : BlockData) → b.messages ≡ (get_or bs last d).messages ++ m ∷ []) → messages_in (set bs last b) ≡ messages_in bs ++ m ∷ []
put_in bs last b m l e =
    let n : last < length bs = omega (arith, l) in
    let none : messages_in (drop (last + 1) bs) ≡ [] = ap messages_in (drop_all (last + 1) bs (omega (arith, l))) in
    let was : messages_in bs ≡ messages_in (take last bs) ++ (get_or bs last b).messages = parted bs last b n ∙ ap (λ s. messages_in (take last bs) ++ ((get_or bs last b).messages ++ s)) none ∙ ap (λ s. messages_in (take last bs) ++ s) (append-nil (get_or bs last b).messages) in
    parted_set bs last b n ∙ ap (λ s. messages_in (take last bs) ++ (b.messages ++ s)) none ∙ ap (λ s. messages_in (take last bs) ++ s) (append-nil b.messages ∙ e b)
    ∙ sym (append_assoc (messages_in (take last bs)) (get_or bs last b).messages (m ∷ [])) ∙ ap (λ s. s ++ m ∷ []) (sym was)

-- what is said of counted blocks, with other blocks of the same messages
pub kept_counted : (ready : List Bool) (bs ds : List BlockData) (coming many : ℕ) → AreCounted ready bs coming many → AllByRecursion (IsCounted ready) ds → messages_in ds ≡ messages_in bs → AreCounted ready ds coming many
kept_counted ready bs ds coming many h g e = record {
  each = g;
  come = h.come ∙ sym (coming_same ready bs ds h.each g e);
  all = h.all ∙ sym (ap {A = List MessageData} length e);
  few = h.few;
}

-- and with one message more
pub sent_counted : (ready : List Bool) (bs ds : List BlockData) (coming many more : ℕ) (m : MessageData) → AreCounted ready bs coming many → AllByRecursion (IsCounted ready) ds → messages_in ds ≡ messages_in bs ++ m ∷ [] → more ≡ cond (may_come ready m) 1 0 → many + 1 < 2 ^ 63 → AreCounted ready ds (coming + more) (many + 1)
sent_counted ready bs ds coming many more m h g e o few = record {
  each = g;
  come = omega (arith, h.come, o, coming_with ready bs ds m h.each g e);
  all = omega (arith, h.all, ap {A = List MessageData} length e, length-append (messages_in bs) (m ∷ []));
  few = few;
}

-- one more may come within as many as there are then
pub more_fits : (ready : List Bool) (bs : List BlockData) (coming many more : ℕ) (b : Bool) → AreCounted ready bs coming many → more ≡ cond b 1 0 → coming + more ≤ many + 1
more_fits ready bs coming many more true h o = omega (arith, h.come, h.all, o, coming_few ready bs h.each)
more_fits ready bs coming many more false h o = omega (arith, h.come, h.all, o, coming_few ready bs h.each)
