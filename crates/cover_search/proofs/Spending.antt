-- What a search with a budget gives.
--
-- In order: within the budget or past it (`Tried`, `whole_is`, `is_whole`, `spent_is`); one search after another,
-- with what is left (`spend_after`); a ladder, under which the search goes on (`under_empty`, `under_spent`,
-- `under_covers`, `under_nothing`); the numbers k, one after another (`up_spent`, `up_found`, `up_next`).
use mathlib.Core.Path.{◌≡◌, refl, sym, ap, ap₂, ◌∙◌}
use mathlib.Core.Option.{Option, none, some}
use mathlib.Core.List.{List, ◌∷◌}
use Prim.Native.Nat.{ℕ, suc, ◌+◌, ◌-◌, ◌≤◌, ◌<◌}
use native.Mathlib.Decide.{dec_lt}
use native.Mathlib.Omega.{arith}
use borrow.Author.Tests.{lt-ltb, le-ltb}
use Rattle.basics.proofs.Clash.{clash}
use Rattle.sets.specs.Sets.{bit}
use Rattle.covers.specs.Searching.{Outcome, under, search, search_from}
use Rattle.covers.proofs.Searching.{under_found, under_next, from_found, from_next}
use Rattle.cover_search.specs.Spending.{Spending, spent, nothing, found, ended, spend}

-- ---- what is left, and the cover
pub as_nothing : (r : ℕ) → ended r none ≡ nothing r
unfolding ended
as_nothing r = refl

pub as_found : (r : ℕ) (c : List ℕ) → ended r (some c) ≡ found r c
unfolding ended
as_found r c = refl

abbrev rest_of : Spending → ℕ
rest_of spent = 0
rest_of (nothing r) = r
rest_of (found r c) = r

abbrev cover_of : Spending → Option (List ℕ)
cover_of spent = none
cover_of (nothing r) = none
cover_of (found r c) = some c

rest_ended : (r : ℕ) (x : Option (List ℕ)) → rest_of (ended r x) ≡ r
unfolding ended
rest_ended r none = refl
rest_ended r (some c) = refl

cover_ended : (r : ℕ) (x : Option (List ℕ)) → cover_of (ended r x) ≡ x
unfolding ended
cover_ended r none = refl
cover_ended r (some c) = refl

not_ended : (r : ℕ) (x : Option (List ℕ)) → spent ≡ ended r x → ⊥
unfolding ended
not_ended r none e = clash cc
not_ended r (some c) e = clash cc

-- ---- within the budget, or past it
-- the outcome o, within the budget b, which leaves the rest, and with the cover x, if one is there
pub record Tried (b : ℕ) (o : Outcome ℕ) (rest : ℕ) (x : Option (List ℕ)) : Type 0 where
  pub sum : o.tried + rest ≡ b
  pub cover : o.cover ≡ x

spend_over : (b : ℕ) (o : Outcome ℕ) → b < o.tried → spend b o ≡ spent
unfolding spend
spend_over b o h = rw (lt-ltb b o.tried h)

spend_in : (b : ℕ) (o : Outcome ℕ) → o.tried ≤ b → spend b o ≡ ended (b - o.tried) o.cover
unfolding spend
spend_in b o h = rw (le-ltb b o.tried h)

pub is_whole : (b : ℕ) (o : Outcome ℕ) (rest : ℕ) (x : Option (List ℕ)) → Tried b o rest x → spend b o ≡ ended rest x
is_whole b o rest x t =
    let e : b - o.tried ≡ rest = omega (arith, t.sum) in
    spend_in b o (omega (arith, t.sum)) ∙ ap₂ ended e t.cover

pub whole_is : (b : ℕ) (o : Outcome ℕ) (rest : ℕ) (x : Option (List ℕ)) → spend b o ≡ ended rest x → Tried b o rest x
whole_is b o rest x e = go (dec_lt b o.tried)
  where
    go : Dec (b < o.tried) → Tried b o rest x
    go (yes l) = absurd (not_ended rest x (sym (spend_over b o l) ∙ e))
    go (no l) =
        let z : ended (b - o.tried) o.cover ≡ ended rest x = sym (spend_in b o (omega arith)) ∙ e in
        let m : b - o.tried ≡ rest = sym (rest_ended (b - o.tried) o.cover) ∙ ap rest_of z ∙ rest_ended rest x in
        record { sum = omega arith; cover = sym (cover_ended (b - o.tried) o.cover) ∙ ap cover_of z ∙ cover_ended rest x }

pub spent_is : (b : ℕ) (o : Outcome ℕ) → spend b o ≡ spent → b < o.tried
spent_is b o e = go (dec_lt b o.tried)
  where
    go : Dec (b < o.tried) → b < o.tried
    go (yes l) = l
    go (no l) = absurd (not_ended (b - o.tried) o.cover (sym e ∙ spend_in b o (omega arith)))

-- ---- one search after another
-- t tried after a others, with what they leave of the budget
spend_after : (a rest m n t : ℕ) (x : Option (List ℕ)) → m ≡ a + rest → n ≡ a + t
    → spend m (record { tried = n; cover = x }) ≡ spend rest (record { tried = t; cover = x })
spend_after a rest m n t x d e = go (dec_lt rest t)
  where
    go : Dec (rest < t) → spend m (record { tried = n; cover = x }) ≡ spend rest (record { tried = t; cover = x })
    go (yes l) = spend_over m (record { tried = n; cover = x }) (omega arith) ∙ sym (spend_over rest (record { tried = t; cover = x }) l)
    go (no l) =
        let z : m - n ≡ rest - t = omega arith in
        spend_in m (record { tried = n; cover = x }) (omega arith) ∙ ap (λ (r : ℕ). ended r x) z
        ∙ sym (spend_in rest (record { tried = t; cover = x }) (omega arith))

-- ---- a ladder, under which the search goes on
pub under_empty : (l : ℕ) (o next : Outcome ℕ) → spend 0 (under l o next) ≡ spent
under_empty l o next = spend_over 0 (under l o next) (go o.cover refl)
  where
    go : (x : Option (List ℕ)) → o.cover ≡ x → 0 < (under l o next).tried
    go none e = rw (under_next l o next e) (omega arith)
    go (some c) e = rw (under_found l o next c e) (omega arith)

module _ (b l : ℕ) (o next : Outcome ℕ) where
  -- it needs more under the ladder
  pub under_spent : spend b o ≡ spent → spend (suc b) (under l o next) ≡ spent
  under_spent e = spend_over (suc b) (under l o next) (go o.cover refl)
    where
      go : (x : Option (List ℕ)) → o.cover ≡ x → suc b < (under l o next).tried
      go none d = rw (under_next l o next d) (omega (arith, spent_is b o e))
      go (some c) d = rw (under_found l o next c d) (omega (arith, spent_is b o e))

  -- there is a cover under it
  pub under_covers : (rest : ℕ) (c : List ℕ) → spend b o ≡ found rest c → spend (suc b) (under l o next) ≡ found rest (l ∷ c)
  under_covers rest c e =
      let t : Tried b o rest (some c) = whole_is b o rest (some c) (e ∙ sym (as_found rest c)) in
      ap (spend (suc b)) (under_found l o next c t.cover)
      ∙ is_whole (suc b) (record { tried = suc o.tried; cover = some (l ∷ c) }) rest (some (l ∷ c)) record { sum = omega (arith, t.sum); cover = refl }
      ∙ as_found rest (l ∷ c)

  -- there is none: the ladders after it, with what is left
  pub under_nothing : (rest : ℕ) → spend b o ≡ nothing rest → spend (suc b) (under l o next) ≡ spend rest next
  under_nothing rest e =
      let t : Tried b o rest none = whole_is b o rest none (e ∙ sym (as_nothing rest)) in
      ap (spend (suc b)) (under_next l o next t.cover)
      ∙ spend_after (suc o.tried) rest (suc b) (suc (o.tried + next.tried)) next.tried next.cover (omega (arith, t.sum)) (omega arith)

-- ---- the numbers k, one after another
module _ (ls left : List ℕ) (k n b : ℕ) where
  abbrev here : Outcome ℕ
  here = search bit ls k left

  abbrev later : Outcome ℕ
  later = search_from bit ls left (suc k) n

  pub up_spent : spend b here ≡ spent → spend b (search_from bit ls left k (suc n)) ≡ spent
  up_spent e = spend_over b (search_from bit ls left k (suc n)) (go here.cover refl)
    where
      go : (x : Option (List ℕ)) → here.cover ≡ x → b < (search_from bit ls left k (suc n)).tried
      go none d = rw (from_next bit ls left k n d) (omega (arith, spent_is b here e))
      go (some c) d = rw (from_found bit ls left k (suc n) c d) (spent_is b here e)

  pub up_found : (rest : ℕ) (c : List ℕ) → spend b here ≡ found rest c → spend b (search_from bit ls left k n) ≡ found rest c
  up_found rest c e =
      let t : Tried b here rest (some c) = whole_is b here rest (some c) (e ∙ sym (as_found rest c)) in
      ap (spend b) (from_found bit ls left k n c t.cover) ∙ e

  pub up_next : (rest : ℕ) → spend b here ≡ nothing rest → spend b (search_from bit ls left k (suc n)) ≡ spend rest later
  up_next rest e =
      let t : Tried b here rest none = whole_is b here rest none (e ∙ sym (as_nothing rest)) in
      ap (spend b) (from_next bit ls left k n t.cover)
      ∙ spend_after here.tried rest b (here.tried + later.tried) later.tried later.cover (omega (arith, t.sum)) refl
