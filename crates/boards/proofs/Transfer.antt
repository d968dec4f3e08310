-- The search over other ladders and pairs: where u and f take ladders to ladders and pairs to pairs, and keep which holds which, the search
-- over the images is the image of the search (`search-map`, `from_map`).
use mathlib.Core.Path.{◌≡◌, refl, sym, ap, ap₂, ◌∙◌}
use mathlib.Core.Bool.{Bool, true, false, cond}
use mathlib.Core.Option
use mathlib.Core.Option.{Option, none, some}
use mathlib.Core.List.{List, [], ◌∷◌, map, Memᴰ}
use Prim.Native.Nat.{ℕ, zero, suc, ◌+◌}
use Rattle.covers.specs.Searching.{Outcome, under, uncovered, try_each, search, search_from}
use Rattle.covers.proofs.Searching.{under_found, under_next, mem_uncovered, search_nil, search_zero, search-suc}

-- an outcome with u of each ladder
abbrev pub mapped : {K L : Type 0} → (K → L) → Outcome K → Outcome L
mapped u o = record { tried = o.tried; cover = Option.map (map u) o.cover }

module _ {K L P Q : Type 0} (holds : K → P → Bool) (holds' : L → Q → Bool) (u : K → L) (f : P → Q) where
  -- on these ladders and pairs, which holds which is kept
  abbrev pub Agrees : List K → List P → Type 0
  Agrees ls left = (l : K) → Memᴰ l ls → (p : P) → Memᴰ p left → holds' (u l) (f p) ≡ holds l p

  uncovered-map : (l : K) (left : List P) → ((p : P) → Memᴰ p left → holds' (u l) (f p) ≡ holds l p)
      → uncovered holds' (u l) (map f left) ≡ map f (uncovered holds l left)
  unfolding uncovered
  uncovered-map l [] h = refl
  uncovered-map l (p ∷ left) h = go (holds l p) (h p (Memᴰ.head refl)) (uncovered-map l left (λ q m. h q (Memᴰ.tail m)))
    where
      go : (b : Bool) → holds' (u l) (f p) ≡ b → uncovered holds' (u l) (map f left) ≡ map f (uncovered holds l left)
          → cond (holds' (u l) (f p)) (uncovered holds' (u l) (map f left)) (f p ∷ uncovered holds' (u l) (map f left)) ≡ map f
          (cond b (uncovered holds l left) (p ∷ uncovered holds l left))
      go true e ih = rw e ih
      go false e ih = rw e (ap (λ (x : List Q). f p ∷ x) ih)

  under_map : (l : K) (o next : Outcome K) → under (u l) (mapped u o) (mapped u next) ≡ mapped u (under l o next)
  under_map l o next = go o.cover refl
    where
      go : (c : Option (List K)) → o.cover ≡ c → under (u l) (mapped u o) (mapped u next) ≡ mapped u (under l o next)
      go none e = under_next (u l) (mapped u o) (mapped u next) (ap (Option.map (map u)) e) ∙ sym (ap (mapped u) (under_next l o next e))
      go (some c) e = under_found (u l) (mapped u o) (mapped u next) (map u c) (ap (Option.map (map u)) e) ∙ sym (ap (mapped u) (under_found l o next c e))

  try_map : (on : List P → Outcome K) (on' : List Q → Outcome L) (p : P) (left : List P) → Memᴰ p left → (ls : List K) → Agrees ls left
      → ((l : K) → Memᴰ l ls → on' (map f (uncovered holds l left)) ≡ mapped u (on (uncovered holds l left)))
      → try_each holds' on' (f p) (map f left) (map u ls) ≡ mapped u (try_each holds on p left ls)
  unfolding try_each
  try_map on on' p left m [] h e = refl
  try_map on on' p left m (l ∷ ls) h e = go (holds l p) (h l (Memᴰ.head refl) p m)
      (try_map on on' p left m ls (λ k j. h k (Memᴰ.tail j)) (λ k j. e k (Memᴰ.tail j)))
    where
      Step : Bool → Outcome K
      Step b = elim b [ true ↦ under l (on (uncovered holds l left)) (try_each holds on p left ls) | false ↦ try_each holds on p left ls ]

      Step' : Bool → Outcome L
      Step' b = elim b [
        | true ↦ under (u l) (on' (uncovered holds' (u l) (map f left)))
            (try_each holds' on' (f p) (map f left) (map u ls))
        | false ↦ try_each holds' on' (f p) (map f left) (map u ls)
      ]

      go : (b : Bool) → holds' (u l) (f p) ≡ b → try_each holds' on' (f p) (map f left) (map u ls) ≡ mapped u (try_each holds on p left ls)
          → Step' (holds' (u l) (f p)) ≡ mapped u (Step b)
      go true d ih =
          ap Step' d
          ∙ ap₂ (under (u l)) (ap on' (uncovered-map l left (h l (Memᴰ.head refl))) ∙ e l (Memᴰ.head refl)) ih
          ∙ under_map l (on (uncovered holds l left)) (try_each holds on p left ls)
      go false d ih = ap Step' d ∙ ih

  search-map : (ls : List K) (k : ℕ) (left : List P) → Agrees ls left → search holds' (map u ls) k (map f left) ≡ mapped u (search holds ls k left)
  search-map ls zero [] h = search_nil holds' (map u ls) 0 ∙ sym (ap (mapped u) (search_nil holds ls 0))
  search-map ls zero (p ∷ left) h = search_zero holds' (map u ls) (f p) (map f left) ∙ sym (ap (mapped u) (search_zero holds ls p left))
  search-map ls (suc k) [] h = search_nil holds' (map u ls) (suc k) ∙ sym (ap (mapped u) (search_nil holds ls (suc k)))
  search-map ls (suc k) (p ∷ left) h =
      search-suc holds' (map u ls) k (f p) (map f left)
      ∙ try_map (search holds ls k) (search holds' (map u ls) k) p (p ∷ left) (Memᴰ.head refl) ls h
      (λ l m. search-map ls k (uncovered holds l (p ∷ left)) (λ a i q j. h a i q ((mem_uncovered holds l (p ∷ left) q).0 j).0))
      ∙ sym (ap (mapped u) (search-suc holds ls k p left))

  pub from_map : (ls : List K) (left : List P) → Agrees ls left → (k n : ℕ)
      → search_from holds' (map u ls) (map f left) k n ≡ mapped u (search_from holds ls left k n)
  unfolding search_from
  from_map ls left h k zero = search-map ls k left h
  from_map ls left h k (suc n) = go (search holds ls k left) (search holds' (map u ls) k (map f left)) (search-map ls k left h) (from_map ls left h (suc k) n)
    where
      step : {L : Type 0} → Outcome L → Outcome L → Option (List L) → Outcome L
      step o next c = elim c [ none ↦ record { tried = o.tried + next.tried; cover = next.cover } | some d ↦ o ]

      go : (o : Outcome K) (o' : Outcome L) → o' ≡ mapped u o → search_from holds' (map u ls) (map f left) (suc k) n ≡ mapped u
          (search_from holds ls left (suc k) n)
          → step o' (search_from holds' (map u ls) (map f left) (suc k) n) o'.cover ≡ mapped u (step o (search_from holds ls left (suc k) n) o.cover)
      go o o' e ih = ap₂ (λ (x y : Outcome L). step x y x.cover) e ih ∙ at o.cover refl
        where
          at : (c : Option (List K)) → o.cover ≡ c
              → step (mapped u o) (mapped u (search_from holds ls left (suc k) n)) (Option.map (map u) c) ≡ mapped u
              (step o (search_from holds ls left (suc k) n) c)
          at none d = refl
          at (some c) d = refl
