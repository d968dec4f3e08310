-- The steps of the code: one law for each return and each turn. The facts of the code are the premises as they are
-- there.
--
-- In order: what an answer says (`told_spent`, `told_nothing`, `told_cover`); one uncovered set (`left_empty`,
-- `none_allowed`, `first-pair`); one next ladder (`ladders_over`, `ladder-skipped`, `none_left`, `ladder-spent`,
-- `ladder-covers`, `ladder-nothing`); the numbers k (`Deepening` and its laws).
use mathlib.Core.Path.{◌≡◌, refl, sym, ap, ap₂, ◌∙◌, subst}
use mathlib.Core.Bool.{Bool, true, false, not}
use mathlib.Core.Option.{none, some}
use mathlib.Core.List.{List, [], ◌∷◌}
use Prim.Native.Nat.{ℕ, suc, ◌+◌, ◌-◌, ◌^◌, ◌≤◌, ◌<◌}
use native.Mathlib.Omega.{arith}
use lib.Dec.{T}
use lib.ListN.{length, get_or, drop, set, drop_of_length-le}
use lib.Seq.{drop-cons}
use Rattle.basics.proofs.Clash.{clash}
use Rattle.sets.specs.Sets.{bit}
use Rattle.sets.specs.First.{First}
use Rattle.boards.specs.Boards.{places}
use Rattle.boards.specs.private.Clearing.{minus}
use Rattle.boards.proofs.Clearing.{uncovered-places, places_first, places_none}
use Rattle.covers.specs.Searching.{Outcome, under, try_each, search}
use Rattle.covers.proofs.Searching.{search_nil, search_zero, search-suc, try_none, try_held, try_other, from_last}
use Rattle.cover_search.specs.Spending.{Spending, spent, nothing, found, spend, up_to, put, laid, no_boards, told_search, Finds}
use Rattle.cover_search.specs.declared.Search.{Search}
use Rattle.cover_search.specs.declared.Search.TheVariants.{Cover, Nothing, Spent}
use Rattle.cover_search.proofs.Spending.{as_nothing, as_found, is_whole, under_empty, under_spent, under_covers, under_nothing, up_spent, up_found}
use Rattle.cover_search.proofs.Spending.{up_next}

-- ---- what an answer says
pub told_spent : (at : ℕ) (o : Spending) → Spent ≡ told_search at o → o ≡ spent
told_spent at spent e = refl
told_spent at (nothing r) e = clash cc
told_spent at (found r c) e = clash cc

pub told_nothing : (at : ℕ) (o : Spending) (r : ℕ) → Nothing r ≡ told_search at o → o ≡ nothing r
told_nothing at spent r e = clash cc
told_nothing at (nothing x) r e = let z : r ≡ x = cc in ap nothing (sym z)
told_nothing at (found x c) r e = clash cc

pub told_cover : (at : ℕ) (o : Spending) (r n : ℕ) → Cover r n ≡ told_search at o → (c : List ℕ) × (o ≡ found r c) × (n ≡ at + length c)
told_cover at spent r n e = clash cc
told_cover at (nothing x) r n e = clash cc
told_cover at (found x c) r n e = let z : r ≡ x = cc in let m : n ≡ at + length c = cc in (c, ap (λ (y : ℕ). found y c) (sym z), m)

put_nil : (at : ℕ) (l : List ℕ) → put at [] l ≡ l
unfolding put
put_nil at l = refl

put_cons : (at x : ℕ) (c l : List ℕ) → put at (x ∷ c) l ≡ set (put (suc at) c l) at x
unfolding put
put_cons at x c l = refl

finds : (at : ℕ) (o o' : Spending) (l : List ℕ) (r : Search) (m : List ℕ) → o ≡ o' → Finds at o' l r m → Finds at o l r m
finds at o o' l r m e = subst (λ (x : Spending). Finds at x l r m) (sym e)

-- nothing tried
idle_nothing : (b : ℕ) → spend b (record { tried = 0; cover = none }) ≡ nothing b
idle_nothing b = is_whole b (record { tried = 0; cover = none }) b none record { sum = omega arith; cover = refl } ∙ as_nothing b

idle_found : (b : ℕ) → spend b (record { tried = 0; cover = some [] }) ≡ found b []
idle_found b = is_whole b (record { tried = 0; cover = some [] }) b (some []) record { sum = omega arith; cover = refl } ∙ as_found b []

-- ---- one uncovered set
module _ (ls : List ℕ) (left k at b : ℕ) (l : List ℕ) where
  pub left_empty : left ≡ 0 → Finds at (spend b (search bit ls k (places left))) l (Cover b at) l
  left_empty z =
      finds at (spend b (search bit ls k (places left))) (found b []) l (Cover b at) l
      (ap (λ (x : List ℕ). spend b (search bit ls k x)) (places_none left z) ∙ ap (spend b) (search_nil bit ls k) ∙ idle_found b)
      record { says = ap (Cover b) e; cover = sym (put_nil at l) }
    where
      e : at ≡ at + 0
      e = omega arith

  module _ (p : ℕ) (f : First left p) (some_left : ¬ (left ≡ 0)) where
    pub none_allowed : k ≡ 0 → Finds at (spend b (search bit ls k (places left))) l (Nothing b) l
    none_allowed z =
        let (rest, e) = places_first left p f some_left in
        finds at (spend b (search bit ls k (places left))) (nothing b) l (Nothing b) l
        (ap₂ (λ (j : ℕ) (x : List ℕ). spend b (search bit ls j x)) z e ∙ ap (spend b) (search_zero bit ls p rest) ∙ idle_nothing b)
        record { says = refl; cover = refl }

    pub first-pair : ¬ (k ≡ 0) → (r : Search) (m : List ℕ) → Finds at (spend b (try_each bit (search bit ls (k - 1)) p (places left) (drop 0 ls))) l r m
        → Finds at (spend b (search bit ls k (places left))) l r m
    first-pair nz r m =
        let (rest, e) = places_first left p f some_left in
        let d : k ≡ suc (k - 1) = omega arith in
        finds at (spend b (search bit ls k (places left))) (spend b (try_each bit (search bit ls (k - 1)) p (places left) ls)) l r m
        (ap (spend b) (ap₂ (λ (j : ℕ) (x : List ℕ). search bit ls j x) d e ∙ search-suc bit ls (k - 1) p rest
        ∙ ap (λ (x : List ℕ). try_each bit (search bit ls (k - 1)) p x ls) (sym e)))

-- ---- one next ladder
module _ (ls : List ℕ) (i p left k at b : ℕ) (l : List ℕ) where
  -- the ladders from place j on
  abbrev from : ℕ → Outcome ℕ
  from j = try_each bit (search bit ls k) p (places left) (drop j ls)

  pub ladders_over : length ls ≤ i → Finds at (spend b (from i)) l (Nothing b) l
  ladders_over h =
      finds at (spend b (from i)) (nothing b) l (Nothing b) l
      (ap (λ (x : List ℕ). spend b (try_each bit (search bit ls k) p (places left) x)) (drop_of_length-le ls {i = i} h)
      ∙ ap (spend b) (try_none bit (search bit ls k) p (places left)) ∙ idle_nothing b)
      record { says = refl; cover = refl }

  module _ (h : i < length ls) where
    abbrev ladder : ℕ
    ladder = get_or ls i 0

    ahead : drop i ls ≡ ladder ∷ drop (i + 1) ls
    ahead = let e : suc i ≡ i + 1 = omega arith in drop-cons ls i 0 h ∙ ap (λ (j : ℕ). ladder ∷ drop j ls) e

    pub ladder-skipped : (t : Bool) → t ≡ bit ladder p → not t ≡ true → (r : Search) (m : List ℕ) → Finds at (spend b (from (i + 1))) l r m
        → Finds at (spend b (from i)) l r m
    ladder-skipped t d e r m =
        finds at (spend b (from i)) (spend b (from (i + 1))) l r m
        (ap (spend b) (ap (try_each bit (search bit ls k) p (places left)) ahead
        ∙ try_other bit (search bit ls k) p (places left) ladder (drop (i + 1) ls) (rw (← d, e) tt)))

    -- it holds the first uncovered pair, and is tried: what is still uncovered under it
    module _ (t : Bool) (d : t ≡ bit ladder p) (e : not t ≡ false) (fits : ladder < 2 ^ 64) where
      abbrev below : Outcome ℕ
      below = search bit ls k (places (minus left ladder))

      holds : T (bit ladder p)
      holds = go t d e
        where
          go : (t : Bool) → t ≡ bit ladder p → not t ≡ false → T (bit ladder p)
          go true d e = rw (← d) tt
          go false d e = clash cc

      tries : from i ≡ under ladder below (from (i + 1))
      tries =
          ap (try_each bit (search bit ls k) p (places left)) ahead ∙ try_held bit (search bit ls k) p (places left) ladder (drop (i + 1) ls) holds
          ∙ ap (λ (x : List ℕ). under ladder (search bit ls k x) (from (i + 1))) (uncovered-places ladder left fits)

      pub none_left : b ≡ 0 → Finds at (spend b (from i)) l Spent l
      none_left z =
          finds at (spend b (from i)) spent l Spent l (ap₂ spend z tries ∙ under_empty ladder below (from (i + 1))) record { says = refl; cover = refl }

      module _ (some_left : ¬ (b ≡ 0)) (r : Search) (m : List ℕ) (f : Finds (at + 1) (spend (b - 1) below) l r m) where
        one : b ≡ suc (b - 1)
        one = omega arith

        next : at + 1 ≡ suc at
        next = omega arith

        is : spend b (from i) ≡ spend (suc (b - 1)) (under ladder below (from (i + 1)))
        is = ap₂ spend one tries

        pub ladder-spent : r ≡ Spent → Finds at (spend b (from i)) l r m
        ladder-spent s =
            let o : spend (b - 1) below ≡ spent = told_spent (at + 1) (spend (b - 1) below) (sym s ∙ f.says) in
            finds at (spend b (from i)) spent l r m (is ∙ under_spent (b - 1) ladder below (from (i + 1)) o)
            record { says = s; cover = f.cover ∙ ap (λ (x : Spending). laid (at + 1) x l) o }

        pub ladder-covers : (more n : ℕ) → r ≡ Cover more n → Finds at (spend b (from i)) l r (set m at ladder)
        ladder-covers more n s =
            let (c, o, q) = told_cover (at + 1) (spend (b - 1) below) more n (sym s ∙ f.says) in
            let a : n ≡ at + suc (length c) = omega (arith, q) in
            finds at (spend b (from i)) (found more (ladder ∷ c)) l r (set m at ladder) (is ∙ under_covers (b - 1) ladder below (from (i + 1)) more c o)
            record {
              says = s ∙ ap (Cover more) a;
              cover =
                  ap (λ (x : List ℕ). set x at ladder) (f.cover ∙ ap (λ (x : Spending). laid (at + 1) x l) o ∙ ap (λ (j : ℕ). put j c l) next)
                  ∙ sym (put_cons at ladder c l);
            }

        pub ladder-nothing : (more : ℕ) → r ≡ Nothing more → (q : Search) (m' : List ℕ) → Finds at (spend more (from (i + 1))) m q m'
            → Finds at (spend b (from i)) l q m'
        ladder-nothing more s q m' g =
            let o : spend (b - 1) below ≡ nothing more = told_nothing (at + 1) (spend (b - 1) below) more (sym s ∙ f.says) in
            let same : m ≡ l = f.cover ∙ ap (λ (x : Spending). laid (at + 1) x l) o in
            finds at (spend b (from i)) (spend more (from (i + 1))) l q m' (is ∙ under_nothing (b - 1) ladder below (from (i + 1)) more o)
            (subst (λ (x : List ℕ). Finds at (spend more (from (i + 1))) x q m') same g)

-- ---- the numbers k, one after another
module _ (ls : List ℕ) (left b : ℕ) where
  -- before the search at k: none was found, and so many may still be tried
  pub record Deepening (k rest : ℕ) (cover : List ℕ) : Type 0 where
    pub few : k ≤ 8
    pub same : spend b (up_to ls left 0 8) ≡ spend rest (up_to ls left k (8 - k))
    pub blank : cover ≡ no_boards

  module _ (k rest : ℕ) (cover : List ℕ) (d : Deepening k rest cover) (r : Search) (m : List ℕ)
      (f : Finds 0 (spend rest (search bit ls k (places left))) cover r m) where
    from-blank : Finds 0 (spend rest (search bit ls k (places left))) no_boards r m
    from-blank = subst (λ (x : List ℕ). Finds 0 (spend rest (search bit ls k (places left))) x r m) d.blank f

    one_fewer : k < 8 → 8 - k ≡ suc (8 - (k + 1))
    one_fewer l = omega arith

    pub deepening-covers : (more n : ℕ) → r ≡ Cover more n → Finds 0 (spend b (up_to ls left 0 8)) no_boards r m
    deepening-covers more n s =
        let (c, o, q) = told_cover 0 (spend rest (search bit ls k (places left))) more n (sym s ∙ f.says) in
        finds 0 (spend b (up_to ls left 0 8)) (spend rest (search bit ls k (places left))) no_boards r m
        (d.same ∙ up_found ls (places left) k (8 - k) rest more c o ∙ sym o) from-blank

    pub deepening-spent : k < 8 → r ≡ Spent → Finds 0 (spend b (up_to ls left 0 8)) no_boards r m
    deepening-spent l s =
        let o : spend rest (search bit ls k (places left)) ≡ spent = told_spent 0 (spend rest (search bit ls k (places left))) (sym s ∙ f.says) in
        finds 0 (spend b (up_to ls left 0 8)) (spend rest (search bit ls k (places left))) no_boards r m
        (d.same ∙ ap (λ (n : ℕ). spend rest (up_to ls left k n)) (one_fewer l) ∙ up_spent ls (places left) k (8 - (k + 1)) rest o ∙ sym o) from-blank

    pub deepening-next : k < 8 → (more : ℕ) → r ≡ Nothing more → Deepening (k + 1) more m
    deepening-next l more s =
        let o : spend rest (search bit ls k (places left)) ≡ nothing more =
        told_nothing 0 (spend rest (search bit ls k (places left))) more (sym s ∙ f.says) in
        let j : suc k ≡ k + 1 = omega arith in
        record {
          few = omega arith;
          same =
              d.same ∙ ap (λ (n : ℕ). spend rest (up_to ls left k n)) (one_fewer l) ∙ up_next ls (places left) k (8 - (k + 1)) rest more o
              ∙ ap (λ (n : ℕ). spend more (up_to ls left n (8 - (k + 1)))) j;
          blank = from-blank.cover ∙ ap (λ (x : Spending). laid 0 x no_boards) o;
        }

    -- the last number
    deepening-last : 8 ≤ k → Finds 0 (spend b (up_to ls left 0 8)) no_boards r m
    deepening-last l =
        let z : 8 - k ≡ 0 = omega (arith, d.few) in
        finds 0 (spend b (up_to ls left 0 8)) (spend rest (search bit ls k (places left))) no_boards r m
        (d.same ∙ ap (λ (j : ℕ). spend rest (up_to ls left k j)) z ∙ ap (spend rest) (from_last bit ls (places left) k)) from-blank

  pub deepening_end : (k rest : ℕ) (cover : List ℕ) → Deepening k rest cover → 8 ≤ k → (r : Search) (m : List ℕ)
      → Finds 0 (spend rest (search bit ls 8 (places left))) cover r m → Finds 0 (spend b (up_to ls left 0 8)) no_boards r m
  deepening_end k rest cover d l r m f =
      let e : 8 ≡ k = omega (arith, d.few) in
      deepening-last k rest cover d r m (subst (λ (j : ℕ). Finds 0 (spend rest (search bit ls j (places left))) cover r m) e f) l

-- ---- the measure: k * (n + 2) for an uncovered set; for a next ladder as much, the ladders still to come, and one
