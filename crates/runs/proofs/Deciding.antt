-- Whether a value is the paused value of a reached state is decided, on either side and in any phase (`paused_decided`). A value is that of one state at
-- most (`paused_state` in Answered.antt).
--
-- In order: the state that a value can be the paused value of; the facts of it, each decided; whether it is reached; the value.
use mathlib.Core.Path.{◌≡◌, refl, sym, ap, ap₂, ◌∙◌, subst}
use mathlib.Core.Logic.{◌⊎◌, inl, inr}
use mathlib.Core.Bool.{Bool}
use mathlib.Core.List.Memᴰ
use mathlib.Core.List.{List, [], ◌∷◌, ◌++◌, map, List-discrete, Memᴰ}
use Prim.Native.Nat.{ℕ, suc, ◌-◌}
use native.Mathlib.Decide.{ℕ_discrete}
use native.Mathlib.Omega.{arith}
use lib.ListN.{length, take, length-map}
use lib.Seq.{take_at}
use Rattle.table.specs.declared.Table.{Table}
use Rattle.rules.specs.Machine.{Phase, Down, Handed, Back, Ended, State, at}
use Rattle.rules.specs.private.Fitting.{ValidFrom, Fits}
use Rattle.rules.proofs.Renaming.{renamed, renamed_phase}
use Rattle.lists.specs.Arrangements.{IsArrangement, place_of}
use Rattle.lists.specs.Lists.{Side}
use Rattle.lists.specs.ByNumber.{candidates}
use Rattle.lists.specs.OnTable.{ReachedOn}
use Rattle.lists.specs.private.Arranging.{index_at, prefer}
use Rattle.lists.proofs.PlacedRuns.{Good, Placed, reached_placed, renamed_back}
use Rattle.runs.specs.Paused.{Value, numbered, paused}
use Rattle.runs.specs.Calling.{held, PausedAt}
use Rattle.runs.proofs.Demands.{Started}

-- ---- the state of a value
suc_sub : (x : ℕ) → suc x - 1 ≡ x
suc_sub x = omega arith

-- the place of a number
place : Phase → Phase
place Down = Down
place Handed = Handed
place (Back k) = Back (k - 1)
place Ended = Ended

place-numbered : (f : Phase) → place (numbered f) ≡ f
unfolding place
place-numbered Down = refl
place-numbered Handed = refl
place-numbered (Back i) = ap Back (suc_sub i)
place-numbered Ended = refl

state_of : Value → State
state_of v = at (map (λ k. k - 1) (take v.count v.picks)) (place v.phase)

places : (p : List ℕ) → map (λ k. k - 1) (map suc p) ≡ p
places [] = refl
places (x ∷ p) = ap₂ (λ (y : ℕ) (q : List ℕ). y ∷ q) (suc_sub x) (places p)

state_paused : (t : Table) (order : List ℕ) (omit : Bool) (s : State) → state_of (paused t order omit s) ≡ s
unfolding state_of
state_paused t order omit s =
    ap₂ at (ap (map (λ k. k - 1)) (take_at (map suc s.picks) _ (length s.picks) (length-map s.picks suc)) ∙ places s.picks)
    (place-numbered s.phase)

-- ---- facts that are decided
both : {A B : Type 0} → Dec A → Dec B → Dec (A × B)
both (yes a) (yes b) = yes (a, b)
both (yes a) (no b) = no (λ h. b h.1)
both (no a) d = no (λ h. a h.0)

is_member : (x : ℕ) (l : List ℕ) → Dec (Memᴰ x l)
is_member x [] = no (λ m. Memᴰ.not-nil m)
is_member x (y ∷ l) = go (ℕ_discrete x y) (is_member x l)
  where
    neither : ¬ (x ≡ y) → ¬ Memᴰ x l → (x ≡ y) ⊎ Memᴰ x l → ⊥
    neither e n (inl h) = e h
    neither e n (inr h) = n h

    go : Dec (x ≡ y) → Dec (Memᴰ x l) → Dec (Memᴰ x (y ∷ l))
    go (yes e) d = yes (Memᴰ.head e)
    go (no e) (yes m) = yes (Memᴰ.tail m)
    go (no e) (no n) = no (λ m. neither e n (Memᴰ.cases_cons m))

module _ (kids : List ℕ → List ℕ) where
  is_valid : (q p : List ℕ) → Dec (ValidFrom kids q p)
  is_valid q [] = yes tt
  is_valid q (x ∷ p) = both (is_member x (kids q)) (is_valid (q ++ (x ∷ [])) p)

  fits : (p : List ℕ) (f : Phase) → Dec (Fits kids p f)
  fits p Down = is_valid [] p
  fits p Handed = both (is_valid [] p) (List-discrete ℕ_discrete (kids p) [])
  fits p (Back g) = both (is_valid [] p) (is_member g (kids p))
  fits p Ended = List-discrete ℕ_discrete p []

back_same : (i j : ℕ) → Dec (Back i ≡ Back j)
back_same i j = go (ℕ_discrete i j)
  where
    go : Dec (i ≡ j) → Dec (Back i ≡ Back j)
    go (yes e) = yes (ap Back e)
    go (no n) = no (λ e. n cc)

-- a phase that has a number has one from 1 on
sound : (f : Phase) → Dec (f ≡ numbered (place f))
unfolding place
sound Down = yes refl
sound Handed = yes refl
sound (Back k) = back_same k (suc (k - 1))
sound Ended = yes refl

-- ---- whether a state is reached: it is where the one by place fits the arranged rows, and leads back to it
module _ (s : Side) (o : List ℕ) (counted : length s.rows ≡ s.count) (a : IsArrangement s.count o) where
  abbrev by_place : State → State
  by_place x = renamed (place_of o) x

  same_phase : (f : Phase) → Dec (renamed_phase (index_at o) (renamed_phase (place_of o) f) ≡ f)
  same_phase Down = yes refl
  same_phase Handed = yes refl
  same_phase (Back k) = back_same (index_at o (place_of o k)) k
  same_phase Ended = yes refl

  reached_decided : (x : State) → Dec (ReachedOn s o x)
  reached_decided x =
      go (fits (candidates (prefer o s).rows) (by_place x).picks (by_place x).phase)
      (List-discrete ℕ_discrete (map (index_at o) (map (place_of o) x.picks)) x.picks) (same_phase x.phase)
    where
      placed : ReachedOn s o x → Placed s o counted a x
      placed r = (reached_placed s o counted a x).0 r

      back_is : (r : ReachedOn s o x) → by_place x ≡ (placed r).state
      back_is r = ap by_place (sym (placed r).is) ∙ renamed_back s o counted a (placed r).state (placed r).good

      again : (r : ReachedOn s o x) → renamed (index_at o) (by_place x) ≡ x
      again r = ap (renamed (index_at o)) (back_is r) ∙ (placed r).is

      go : Dec (Good s o counted a (by_place x)) → Dec (map (index_at o) (map (place_of o) x.picks) ≡ x.picks)
          → Dec (renamed_phase (index_at o) (renamed_phase (place_of o) x.phase) ≡ x.phase) → Dec (ReachedOn s o x)
      go (yes h) (yes p) (yes f) = yes ((reached_placed s o counted a x).1 (record { state = by_place x; good = h; is = ap₂ at p f }))
      go (no h) p f = no (λ r. h (subst (Good s o counted a) (sym (back_is r)) (placed r).good))
      go (yes h) (no p) f = no (λ r. p (ap (λ (y : State). y.picks) (again r)))
      go (yes h) (yes p) (no f) = no (λ r. f (ap (λ (y : State). y.phase) (again r)))

module _ (side : Table → Side) (v : Value) where
  abbrev here : Side
  here = side v.table

  pub paused_decided : Started side v.table v.order → ((s : State) × PausedAt side v s) ⊎ ((s : State) → PausedAt side v s → ⊥)
  unfolding state_of
  paused_decided g =
      go (both (both (List-discrete ℕ_discrete v.picks w.picks) (ℕ_discrete v.count w.count)) (sound v.phase))
      (reached_decided here (held side v) g.fair.counted g.arranged (state_of v))
    where
      w : Value
      w = paused v.table v.order v.omit (state_of v)

      Same : Type 0
      Same = ((v.picks ≡ w.picks) × (v.count ≡ w.count)) × (v.phase ≡ w.phase)

      same : (p q : List ℕ) (n m : ℕ) (f g : Phase) → p ≡ q → n ≡ m → f ≡ g
          → ◌≡◌ {A = Value} (record { table = v.table; order = v.order; picks = p; count = n; phase = f; omit = v.omit })
          (record { table = v.table; order = v.order; picks = q; count = m; phase = g; omit = v.omit })
      same p q n m f g a b c = rw (a, b, c)

      its : (s : State) → PausedAt side v s → state_of v ≡ s
      its s p = ap state_of p.stands ∙ state_paused v.table v.order v.omit s

      go : Dec Same → Dec (ReachedOn here (held side v) (state_of v)) → ((s : State) × PausedAt side v s) ⊎ ((s : State) → PausedAt side v s → ⊥)
      go (yes e) (yes f) =
          inl (
            state_of v,
            record { reached = f; stands = same v.picks w.picks v.count w.count v.phase w.phase e.0.0 e.0.1 e.1 },
          )
      go (no e) f =
          inr (λ s p.
          let d : v ≡ w = p.stands ∙ ap (paused v.table v.order v.omit) (sym (its s p)) in
          e ((ap (λ (x : Value). x.picks) d, ap (λ (x : Value). x.count) d), ap (λ (x : Value). x.phase) d))
      go (yes e) (no f) = inr (λ s p. f (subst (ReachedOn here (held side v)) (sym (its s p)) p.reached))
