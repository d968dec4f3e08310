-- The lists of parts that split a part are, one after the other, its list (`joined_part`), and of parts that split
-- the empty sequence, the side's whole list (`joined_list`). This is by the definitions alone: no run and no
-- candidate is looked at.
--
-- In order: the list of a part is unique (`part_unique`), and has each set once (`part_once`); it exists for every
-- sequence, as the side's list without the other sets (`part_list`); the empty sequence names the whole list
-- (`whole_part`, `part_whole`); the lists of parts exist and are unique (`part_lists`, `part_lists_unique`); a
-- maximal chain is of one part only (`one_part`); the theorem.
--
-- Pins, which nothing else cites: `part_once`, `part_lists_unique`, `one_part`.
use mathlib.Core.Path.{◌≡◌, refl, sym, ap₂, ◌∙◌, subst}
use mathlib.Core.Logic.{◌⊎◌, inl, inr, ◌↔◌, ◌≢◌}
use mathlib.Core.List.Memᴰ
use mathlib.Core.List.{List, [], ◌∷◌, ◌++◌, Memᴰ}
use Prim.Native.Nat.{ℕ}
use lib.Dec.{T}
use Rattle.sets.proofs.Tests.{is_true}
use Rattle.table.specs.declared.Table.{Table}
use Rattle.table.specs.Chains.{IsMaximal}
use Rattle.table.specs.Tables.{table_rows}
use Rattle.rules.specs.Sequences.{All, Sorted}
use Rattle.rules.specs.Keeping.{kept_sets}
use Rattle.rules.proofs.Sequences.{All_of, All_get, Sorted_append, Sorted_map, before_irrefl, before_trans, sorted_unique}
use Rattle.rules.proofs.Kept.{mem_kept, kept_sorted}
use Rattle.lists.specs.Lists.{Earlier, Side, list_key, PreferredList}
use Rattle.lists.proofs.Listed.{listed}
use Rattle.parts.specs.Parts.{StartsWith, PartedIn, picks_of, PartList, Splits, PartLists, joined}
use Rattle.parts.specs.Calls.{is_of}
use Rattle.parts.proofs.Prefixes.{starts_nil, starts_trans, starts_test, parted_in}

-- what is at two places of a list that ascends by r is in that order
at_places : {A : Type 0} (r : A → A → Type 0) (a b c : List A) (x y : A) → Sorted r (a ++ (x ∷ (b ++ (y ∷ c)))) → r x y
at_places r [] b c x y h = All_get (r x) (Memᴰ.append_right b (Memᴰ.head refl)) h.0
at_places r (z ∷ a) b c x y h = at_places r a b c x y h.1

module _ (t : Table) (s : Side) (o : List ℕ) where
  abbrev Of : List ℕ → List ℕ → Type 0
  Of p x = IsMaximal (table_rows t) x × StartsWith p (picks_of s o x)

  -- a list that ascends has no set twice
  part_listed : (p : List ℕ) (xs : List (List ℕ)) → ((x : List ℕ) → Memᴰ x xs ↔ Of p x) → Sorted (Earlier (list_key s o)) xs → PartList t s o p xs
  part_listed p xs m a = record { members = m; once = Sorted_map (λ x y h e. before_irrefl (list_key s o y) (rw e at h)) xs a; ascends = a }

  -- ---- one list
  pub part_unique : (p : List ℕ) (xs ys : List (List ℕ)) → PartList t s o p xs → PartList t s o p ys → xs ≡ ys
  part_unique p xs ys a b =
      sorted_unique (Earlier (list_key s o)) (λ x. before_irrefl (list_key s o x)) (λ x y z h k. search (before_trans, h, k)) xs ys a.ascends b.ascends
      (λ x. (λ m. (b.members x).1 ((a.members x).0 m), λ m. (a.members x).1 ((b.members x).0 m)))

  -- "each once": the sets at two places of it are not the same
  pub part_once : (p : List ℕ) (xs : List (List ℕ)) → PartList t s o p xs
      → (a b c : List (List ℕ)) (x y : List ℕ) → xs ≡ a ++ (x ∷ (b ++ (y ∷ c))) → x ≢ y
  part_once p xs l a b c x y e = at_places (λ (u v : List ℕ). u ≢ v) a b c x y (subst (Sorted (λ (u v : List ℕ). u ≢ v)) e l.once)

  pub part_list : (p : List ℕ) (xs : List (List ℕ)) → PreferredList t s o xs → PartList t s o p (kept_sets (is_of s o p) xs)
  part_list p xs l =
      part_listed p (kept_sets (is_of s o p) xs)
      (λ x.
      let k = mem_kept (is_of s o p) xs x in (
        λ m. ((l.members x).0 (k.0 m).0, (starts_test p (picks_of s o x)).0 (is_true (is_of s o p x) (k.0 m).1)),
        λ h. k.1 ((l.members x).1 h.0, subst T (sym ((starts_test p (picks_of s o x)).1 h.1)) tt),
      ))
      (kept_sorted (is_of s o p) (Earlier (list_key s o)) xs l.ascends)

  -- ---- the whole list
  pub whole_part : (xs : List (List ℕ)) → PreferredList t s o xs → PartList t s o [] xs
  whole_part xs l =
      part_listed [] xs (λ x. (λ m. ((l.members x).0 m, starts_nil (picks_of s o x)), λ h. (l.members x).1 h.0)) l.ascends

  pub part_whole : (xs : List (List ℕ)) → PartList t s o [] xs → PreferredList t s o xs
  part_whole xs l = listed xs (λ x. (λ m. ((l.members x).0 m).0, λ h. (l.members x).1 (h, starts_nil (picks_of s o x)))) l.ascends

  -- ---- the lists of parts
  abbrev pub kept_lists : List (List ℕ) → List (List ℕ) → List (List (List ℕ))
  kept_lists xs [] = []
  kept_lists xs (p ∷ ps) = kept_sets (is_of s o p) xs ∷ kept_lists xs ps

  pub part_lists : (xs : List (List ℕ)) → PreferredList t s o xs → (ps : List (List ℕ)) → PartLists t s o ps (kept_lists xs ps)
  part_lists xs l [] = tt
  part_lists xs l (p ∷ ps) = (part_list p xs l, part_lists xs l ps)

  pub part_lists_unique : (ps : List (List ℕ)) (xss yss : List (List (List ℕ))) → PartLists t s o ps xss → PartLists t s o ps yss → xss ≡ yss
  part_lists_unique [] [] [] a b = refl
  part_lists_unique [] [] (ys ∷ yss) a b = absurd b
  part_lists_unique [] (xs ∷ xss) yss a b = absurd a
  part_lists_unique (p ∷ ps) [] yss a b = absurd a
  part_lists_unique (p ∷ ps) (xs ∷ xss) [] a b = absurd b
  part_lists_unique (p ∷ ps) (xs ∷ xss) (ys ∷ yss) a b =
      ap₂ (λ (l : List (List ℕ)) (m : List (List (List ℕ))). l ∷ m) (part_unique p xs ys a.0 b.0) (part_lists_unique ps xss yss a.1 b.1)

  -- ---- one after the other
  joined_in : (ps : List (List ℕ)) (xss : List (List (List ℕ))) → PartLists t s o ps xss → (x : List ℕ) → Memᴰ x (joined xss)
      → (p : List ℕ) × Memᴰ p ps × Of p x
  joined_in [] [] l x m = absurd (Memᴰ.not-nil m)
  joined_in [] (xs ∷ xss) l x m = absurd l
  joined_in (p ∷ ps) [] l x m = absurd l
  joined_in (p ∷ ps) (xs ∷ xss) l x m = go (λ k. joined_in ps xss l.1 x k) (Memᴰ.append_cases xs m)
    where
      go : (Memᴰ x (joined xss) → (r : List ℕ) × Memᴰ r ps × Of r x) → Memᴰ x xs ⊎ Memᴰ x (joined xss)
          → (r : List ℕ) × Memᴰ r (p ∷ ps) × Of r x
      go on (inl k) = (p, Memᴰ.head refl, (l.0.members x).0 k)
      go on (inr k) = let r = on k in (r.0, Memᴰ.tail r.1, r.2)

  joined_of : (ps : List (List ℕ)) (xss : List (List (List ℕ))) → PartLists t s o ps xss → (x p : List ℕ) → Memᴰ p ps → Of p x → Memᴰ x (joined xss)
  joined_of [] [] l x p m h = absurd (Memᴰ.not-nil m)
  joined_of [] (xs ∷ xss) l x p m h = absurd l
  joined_of (q ∷ ps) [] l x p m h = absurd l
  joined_of (q ∷ ps) (xs ∷ xss) l x p m h = go (λ k. joined_of ps xss l.1 x p k h) (Memᴰ.cases_cons m)
    where
      go : (Memᴰ p ps → Memᴰ x (joined xss)) → (p ≡ q) ⊎ Memᴰ p ps → Memᴰ x (xs ++ joined xss)
      go on (inl e) = Memᴰ.append_left (joined xss) ((l.0.members x).1 (h.0, subst (λ (r : List ℕ). StartsWith r (picks_of s o x)) e h.1))
      go on (inr k) = Memᴰ.append_right xs (on k)

  joined_ascends : (ps : List (List ℕ)) (xss : List (List (List ℕ))) → PartLists t s o ps xss → Sorted (PartedIn o) ps
      → Sorted (Earlier (list_key s o)) (joined xss)
  joined_ascends [] [] l a = tt
  joined_ascends [] (xs ∷ xss) l a = absurd l
  joined_ascends (p ∷ ps) [] l a = absurd l
  joined_ascends (p ∷ ps) (xs ∷ xss) l a =
      Sorted_append (Earlier (list_key s o)) xs (joined xss) l.0.ascends (joined_ascends ps xss l.1 a.1)
      (All_of (λ (x : List ℕ). All (Earlier (list_key s o) x) (joined xss)) xs (λ x m.
      All_of (Earlier (list_key s o) x) (joined xss) (λ y k.
      let r = joined_in ps xss l.1 y k in
      parted_in o p r.0 (picks_of s o x) (picks_of s o y) (All_get (PartedIn o p) r.1 a.0) ((l.0.members x).0 m).1 r.2.1)))

  -- a maximal chain is of one part only
  one_at : (ps : List (List ℕ)) → Sorted (PartedIn o) ps → (p r x : List ℕ) → Memᴰ p ps → Memᴰ r ps
      → StartsWith p (picks_of s o x) → StartsWith r (picks_of s o x) → p ≡ r
  one_at [] a p r x m k h l = absurd (Memᴰ.not-nil m)
  one_at (q ∷ ps) a p r x m k h l = go (λ i j. one_at ps a.1 p r x i j h l) (Memᴰ.cases_cons m) (Memᴰ.cases_cons k)
    where
      never : (u w : List ℕ) → PartedIn o u w → StartsWith u (picks_of s o x) → StartsWith w (picks_of s o x) → ⊥
      never u w e f g = before_irrefl (list_key s o x) (parted_in o u w (picks_of s o x) (picks_of s o x) e f g)

      later : (u w : List ℕ) → u ≡ q → Memᴰ w ps → PartedIn o u w
      later u w e i = subst (λ (y : List ℕ). PartedIn o y w) (sym e) (All_get (PartedIn o q) i a.0)

      go : (Memᴰ p ps → Memᴰ r ps → p ≡ r) → (p ≡ q) ⊎ Memᴰ p ps → (r ≡ q) ⊎ Memᴰ r ps → p ≡ r
      go on (inl e) (inl f) = e ∙ sym f
      go on (inl e) (inr j) = absurd (never p r (later p r e j) h l)
      go on (inr i) (inl f) = absurd (never r p (later r p f i) l h)
      go on (inr i) (inr j) = on i j

  pub one_part : (q : List ℕ) (ps : List (List ℕ)) → Splits t s o q ps → (p r x : List ℕ) → Memᴰ p ps → Memᴰ r ps
      → StartsWith p (picks_of s o x) → StartsWith r (picks_of s o x) → p ≡ r
  one_part q ps c p r x m k h l = one_at ps c.ascends p r x m k h l

  -- the lists of the parts that split q, one after the other, are the list of q
  pub joined_part : (q : List ℕ) (ps : List (List ℕ)) (xss : List (List (List ℕ))) → Splits t s o q ps → PartLists t s o ps xss → PartList t s o q (joined xss)
  joined_part q ps xss c l =
      part_listed q (joined xss)
      (λ x. (
        λ m. let r = joined_in ps xss l x m in (r.2.0, starts_trans q r.0 (picks_of s o x) (All_get (StartsWith q) r.1 c.within) r.2.1),
        λ h. let r = c.covers x h.0 h.1 in joined_of ps xss l x r.0 r.1 (h.0, r.2),
      ))
      (joined_ascends ps xss l c.ascends)

  -- and the whole list, where they split the empty sequence
  pub joined_list : (ps : List (List ℕ)) (xss : List (List (List ℕ))) → Splits t s o [] ps → PartLists t s o ps xss → PreferredList t s o (joined xss)
  joined_list ps xss c l = part_whole (joined xss) (joined_part [] ps xss c l)
