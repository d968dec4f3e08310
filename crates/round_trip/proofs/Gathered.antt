-- The readings that a reader gathers entry by entry, out of no readings: where every entry brings the reading that vs has at its place, and
-- vs has no other reading but 0, they are vs (`gathered_all`). In order: readings gathered; places that some entry has; the places of the
-- pairs of rows (`visits_rows`).
use Prim.Native.Nat.{ℕ, zero, suc, ◌+◌, ◌-◌, ◌*◌, ◌/◌, ◌%◌, ◌≤◌, ◌<◌}
use mathlib.Core.Path.{◌≡◌, refl, ap, sym, ◌∙◌, subst}
use mathlib.Core.List.{List, [], ◌∷◌, ◌++◌}
use mathlib.Core.Bool.{true}
use mathlib.Core.Logic.{◌⊎◌, inl, inr}
use native.Mathlib.Omega.{arith}
use native.Mathlib.Decide.{ℕ_discrete}
use lib.IntN.{ℤ, pos}
use lib.ListN.{length, set, length-set, length-replicate, get_or-replicate}
use lib.Seq.{ext_get_or, get_or-set_same, get_or-set_other}
use borrow.Author.Tests.{eqb-true}
use Rattle.sets.specs.Sets.{bit}
use Rattle.sets.proofs.Digits.{bit_zero, bit-suc}
use Rattle.recorded.specs.Tests.{reading, no_readings}
use Rattle.table.specs.Pairs.{row}
use Rattle.file_reader.specs.private.Reading.{add_reading}
use Rattle.file_writer.specs.Writing.{gauge_of, GaugeCase, row_pairs, pairs_from}
use Rattle.file_writer.specs.TestFiles.{value_at}
use Rattle.file_writer.proofs.PairLines.{by_low}

-- the place of a pair's reading
abbrev place_of : GaugeCase → ℕ
place_of p = (p.gauge.0 - 1) * 64 + (p.case.0 - 1)

-- the readings us with those of the pairs, as vs has them
abbrev pub gathered : List ℤ → List ℤ → List GaugeCase → List ℤ
gathered vs us [] = us
gathered vs us (p ∷ ps) = gathered vs (add_reading us p.gauge p.case (value_at vs p)) ps

pub gathered_append : (vs us : List ℤ) (ps qs : List GaugeCase) → gathered vs us (ps ++ qs) ≡ gathered vs (gathered vs us ps) qs
gathered_append vs us [] qs = refl
gathered_append vs us (p ∷ ps) qs = gathered_append vs (add_reading us p.gauge p.case (value_at vs p)) ps qs

gathered-length : (vs us : List ℤ) (ps : List GaugeCase) → length (gathered vs us ps) ≡ length us
gathered-length vs us [] = refl
gathered-length vs us (p ∷ ps) =
    gathered-length vs (add_reading us p.gauge p.case (value_at vs p)) ps ∙ length-set us (place_of p) (value_at vs p)

-- a reading that is right stays right
stays : (vs us : List ℤ) (ps : List GaugeCase) (i : ℕ) → i < length us → reading us i ≡ reading vs i → reading (gathered vs us ps) i ≡ reading vs i
stays vs us [] i h e = e
stays vs us (p ∷ ps) i h e =
    stays vs (set us (place_of p) (value_at vs p)) ps i (omega (arith, length-set us (place_of p) (value_at vs p))) (go (ℕ_discrete i (place_of p)))
  where
    go : Dec (i ≡ place_of p) → reading (set us (place_of p) (value_at vs p)) i ≡ reading vs i
    go (yes d) =
        ap (reading (set us (place_of p) (value_at vs p))) d ∙ get_or-set_same us (place_of p) (value_at vs p) (pos 0) (omega arith) ∙ ap (reading vs) (sym d)
    go (no d) = get_or-set_other us (place_of p) i (value_at vs p) (pos 0) d ∙ e

-- some pair has the place i
abbrev pub Visits : ℕ → List GaugeCase → Type 0
Visits i [] = ⊥
Visits i (p ∷ ps) = (place_of p ≡ i) ⊎ Visits i ps

brought : (vs us : List ℤ) (ps : List GaugeCase) (i : ℕ) → i < length us → Visits i ps → reading (gathered vs us ps) i ≡ reading vs i
brought vs us [] i h v = absurd v
brought vs us (p ∷ ps) i h v = go v (brought vs (set us (place_of p) (value_at vs p)) ps i room)
  where
    room : i < length (set us (place_of p) (value_at vs p))
    room = omega (arith, length-set us (place_of p) (value_at vs p))

    go : (place_of p ≡ i) ⊎ Visits i ps → (Visits i ps → reading (gathered vs (set us (place_of p) (value_at vs p)) ps) i ≡ reading vs i)
        → reading (gathered vs (set us (place_of p) (value_at vs p)) ps) i ≡ reading vs i
    go (inl d) ih =
        stays vs (set us (place_of p) (value_at vs p)) ps i room
        (ap (reading (set us (place_of p) (value_at vs p))) (sym d) ∙ get_or-set_same us (place_of p) (value_at vs p) (pos 0) (omega arith) ∙ ap (reading vs) d)
    go (inr w) ih = ih w

pub gathered_all : (vs : List ℤ) (ps : List GaugeCase) → length vs ≡ 4096
    → ((i : ℕ) → i < 4096 → (reading vs i ≡ pos 0) ⊎ Visits i ps) → gathered vs no_readings ps ≡ vs
gathered_all vs ps e f =
    ext_get_or (pos 0) (gathered vs no_readings ps) vs (gathered-length vs no_readings ps ∙ length-replicate 4096 (pos 0) ∙ sym e) (λ i h.
    go i (omega (arith, gathered-length vs no_readings ps, length-replicate 4096 (pos 0)))
    (f i (omega (arith, gathered-length vs no_readings ps, length-replicate 4096 (pos 0)))))
  where
    go : (i : ℕ) → i < 4096 → (reading vs i ≡ pos 0) ⊎ Visits i ps → reading (gathered vs no_readings ps) i ≡ reading vs i
    go i h (inl z) =
        stays vs no_readings ps i (omega (arith, length-replicate 4096 (pos 0))) (get_or-replicate 4096 i (pos 0) (pos 0) h ∙ sym z)
    go i h (inr v) = brought vs no_readings ps i (omega (arith, length-replicate 4096 (pos 0))) v

-- ---- the places of the pairs of rows
visits_left : (i : ℕ) (ps qs : List GaugeCase) → Visits i ps → Visits i (ps ++ qs)
visits_left i [] qs v = absurd v
visits_left i (p ∷ ps) qs (inl e) = inl e
visits_left i (p ∷ ps) qs (inr v) = inr (visits_left i ps qs v)

visits_right : (i : ℕ) (ps qs : List GaugeCase) → Visits i qs → Visits i (ps ++ qs)
visits_right i [] qs v = v
visits_right i (p ∷ ps) qs v = inr (visits_right i ps qs v)

-- bit k of a row over n cases from c on is the pair of case c + k
visits_row : (g n c b k : ℕ) → 1 ≤ c → k < n → bit b k ≡ true → Visits ((g - 1) * 64 + (c + k - 1)) (row_pairs (gauge_of g) n c b)
visits_row g zero c b k l h t = absurd (omega arith)
visits_row g (suc n) c b zero l h t =
    by_low (Visits ((g - 1) * 64 + (c + 0 - 1))) (gauge_of g) n c b (λ e. inl (ap (λ (m : ℕ). (g - 1) * 64 + (m - 1)) (zero_more c)))
    (λ e. absurd (e (eqb-true (b % 2) 1 (sym (bit_zero b) ∙ t))))
  where
    zero_more : (m : ℕ) → m ≡ m + 0
    zero_more m = omega arith
visits_row g (suc n) c b (suc k) l h t =
    let v = visits_row g n (suc c) (b / 2) k (omega arith) (omega arith) (sym (bit-suc b k) ∙ t) in
    let w : Visits ((g - 1) * 64 + (c + suc k - 1)) (row_pairs (gauge_of g) n (suc c) (b / 2)) =
    subst (λ (m : ℕ). Visits ((g - 1) * 64 + (m - 1)) (row_pairs (gauge_of g) n (suc c) (b / 2))) (shift c k) v in
    by_low (Visits ((g - 1) * 64 + (c + suc k - 1))) (gauge_of g) n c b (λ e. inr w) (λ e. w)
  where
    shift : (m j : ℕ) → suc m + j ≡ m + suc j
    shift m j = omega arith

-- bit k of row i of the rows from gauge g on
pub visits_rows : (cs g : ℕ) (rows : List ℕ) (i k : ℕ) → 1 ≤ g → i < length rows → k < cs → bit (row rows i) k ≡ true
    → Visits ((g + i - 1) * 64 + k) (pairs_from cs g rows)
unfolding pairs_from
visits_rows cs g [] i k o h l t = absurd (omega arith)
visits_rows cs g (r ∷ rows) zero k o h l t =
    visits_left ((g + 0 - 1) * 64 + k) (row_pairs (gauge_of g) cs 1 r) (pairs_from cs (suc g) rows)
    (subst (λ (m : ℕ). Visits m (row_pairs (gauge_of g) cs 1 r)) same (visits_row g cs 1 r k (omega arith) l t))
  where
    same : (g - 1) * 64 + (1 + k - 1) ≡ (g + 0 - 1) * 64 + k
    same = omega arith
visits_rows cs g (r ∷ rows) (suc i) k o h l t =
    visits_right ((g + suc i - 1) * 64 + k) (row_pairs (gauge_of g) cs 1 r) (pairs_from cs (suc g) rows)
    (subst (λ (m : ℕ). Visits ((m - 1) * 64 + k) (pairs_from cs (suc g) rows)) same (visits_rows cs (suc g) rows i k (omega arith) (omega arith) l t))
  where
    same : suc g + i ≡ g + suc i
    same = omega arith
