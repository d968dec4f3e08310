-- The chains of a cover. In order: the loop that makes them of boards (`chains_start`, `chains_turn`, `chains_end`); that the chains of the boards of
-- ladders are those of the ladders (`chains_back`).
use mathlib.Core.Path.{◌≡◌, refl, sym, ap, ap₂, ◌∙◌}
use mathlib.Core.List.{List, [], ◌∷◌, ◌++◌, map, append_assoc, Memᴰ}
use Prim.Native.Nat.{ℕ, suc, ◌+◌, ◌-◌, ◌≤◌, ◌<◌}
use native.Mathlib.Omega.{arith}
use lib.ListN.{length, get_or, take, set, replicate, length-map}
use lib.Seq.{take-suc, length-take-le, set_at}
use Rattle.table.specs.declared.Chain.{Chain}
use Rattle.table.specs.Tables.{padded, blank_chain}
use Rattle.boards.specs.Boards.{board, board_rows}
use Rattle.boards.proofs.Bits.{Small}
use Rattle.boards.proofs.Packing.{rows_back}
use Rattle.mechanisms.specs.Covering.{Reading, covered, no_chains}
use Rattle.mechanisms.specs.private.Steps.{shown}

-- the chain of a board
abbrev pub chain_of : ℕ → ℕ → Chain
chain_of gauges b = record { gauges = gauges; rows = padded (board_rows 8 b) }

map_snoc : (f : ℕ → Chain) (a : List ℕ) (x : ℕ) → map f (a ++ (x ∷ [])) ≡ map f a ++ (f x ∷ [])
map_snoc f [] x = refl
map_snoc f (y ∷ a) x = ap (λ (l : List Chain). f y ∷ l) (map_snoc f a x)

-- ---- the loop
module _ (gauges : ℕ) (found : List ℕ) (count : ℕ) where
  pub record Making (i : ℕ) (cover : List Chain) : Type 0 where
    pub few : i ≤ count
    pub sofar : cover ≡ map (chain_of gauges) (take i found) ++ replicate (8 - i) blank_chain

  pub chains_start : (cover : List Chain) → cover ≡ no_chains → Making 0 cover
  chains_start cover e = record { few = omega arith; sofar = e }

  pub chains_turn : length found ≡ 8 → (i : ℕ) (cover : List Chain) → Making i cover → i < count → count ≤ 8 → (y : Chain)
      → y ≡ chain_of gauges (get_or found i 0) → Making (i + 1) (set cover i y)
  chains_turn size i cover m l h y d = record {
    few = omega arith;
    sofar =
        ap₂ (λ (z : List Chain) (a : Chain). set z i a) m.sofar d
        ∙ ap (λ (k : ℕ). set (map (chain_of gauges) (take i found) ++ replicate k blank_chain) i (chain_of gauges (get_or found i 0))) left
        ∙ set_at (map (chain_of gauges) (take i found)) blank_chain (replicate (8 - (i + 1)) blank_chain) (chain_of gauges (get_or found i 0)) i front
        ∙ sym (ap (λ (z : List ℕ). map (chain_of gauges) z ++ replicate (8 - (i + 1)) blank_chain) one_more
        ∙ ap (λ (z : List Chain). z ++ replicate (8 - (i + 1)) blank_chain) (map_snoc (chain_of gauges) (take i found) (get_or found i 0))
        ∙ append_assoc (map (chain_of gauges) (take i found)) (chain_of gauges (get_or found i 0) ∷ []) (replicate (8 - (i + 1)) blank_chain));
  }
    where
      left : 8 - i ≡ suc (8 - (i + 1))
      left = omega arith

      front : length (map (chain_of gauges) (take i found)) ≡ i
      front = length-map (take i found) (chain_of gauges) ∙ length-take-le i found (omega (arith, size))

      one_more : take (i + 1) found ≡ take i found ++ (get_or found i 0 ∷ [])
      one_more = let e : i + 1 ≡ suc i = omega arith in ap (λ (k : ℕ). take k found) e ∙ take-suc found i 0 (omega (arith, size))

  pub chains_end : (i : ℕ) (cover : List Chain) → Making i cover → count ≤ i → (tried : ℕ)
      → ◌≡◌ {A = Reading} (record { reply = covered; number = count; tried = tried; cover = cover }) (shown gauges (take count found) count tried)
  chains_end i cover m l tried =
      let e : i ≡ count = omega (arith, m.few) in
      ap (λ (z : List Chain). record { reply = covered; number = count; tried = tried; cover = z })
      (m.sofar ∙ ap (λ (k : ℕ). map (chain_of gauges) (take k found) ++ replicate (8 - k) blank_chain) e)

-- ---- from boards back to the ladders
pub chains_back : (gauges : ℕ) (c : List (List ℕ)) → ((x : List ℕ) → Memᴰ x c → Small x × (length x ≤ 8))
    → map (chain_of gauges) (map board c) ≡ map (λ x. record { gauges = gauges; rows = padded x }) c
chains_back gauges [] h = refl
chains_back gauges (x ∷ c) h =
    let (s, l) = h x (Memᴰ.head refl) in
    ap₂ (λ (y : List ℕ) (z : List Chain). record { gauges = gauges; rows = y } ∷ z) (rows_back x s l) (chains_back gauges c (λ y m. h y (Memᴰ.tail m)))
