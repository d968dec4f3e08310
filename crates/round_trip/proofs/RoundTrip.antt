-- Reading what was written gives it back: every legal test, with its kind, shape, entries and readings
-- (`test_round_trip`), at every cutoff (`test_reads`), and every legal table (`round_trip`); whatever a writer takes
-- is such a test or table (`written_test_reads`, `written_reads`). In order: one entry, one row, the rows; the banner
-- and the size line; the file; readers and writers.
use Prim.Native.Nat.{ℕ, zero, suc, ◌+◌, ◌-◌, ◌*◌, ◌/◌, ◌%◌, ◌^◌, ◌≤◌, ◌<◌}
use mathlib.Core.Path.{◌≡◌, refl, ap, sym, ◌∙◌, subst}
use mathlib.Core.List.{List, [], ◌∷◌, ◌++◌}
use mathlib.Core.Bool.{Bool, true, false, cond, ◌&&◌}
use mathlib.Core.Logic.{◌⊎◌, inl, inr}
use native.Mathlib.Omega.{arith}
use native.Mathlib.Decide.{dec_lt}
use native.Mathlib.Numerals.{add-one, one-add}
use native.Mathlib.Nat.{mod-lt, mod-eq_of_lt, div-eq_of_lt, zero-div, one-mul}
use lib.IntN.{ℤ, pos, nat_abs}
use lib.ListN.{length, get_or, take, drop, replicate, length-append, length-drop, take-append-drop, replicate-append-replicate}
use lib.Seq.{get_or_at, set_at, append_snoc, get_or-drop}
use lib.Dec.{T, ltb, eqb}
use lib.Pow.{pow_pos, mod-pow-add, shr-shr}
use lib.Bits.{or_shifted_r}
use borrow.Author.Tests.{le-ltb, le-leb, ne_eqb, ltb-true, eqb-true, eqb-false}
use Rattle.sets.specs.Sets.{bit, join}
use Rattle.sets.proofs.Tests.{is_true}
use Rattle.table.specs.Pairs.{row}
use Rattle.table.specs.Tables.{Legal, no_rows, table_rows, table_refusal}
use Rattle.refusals.specs.Answers.{Answer}
use Rattle.table.specs.declared.Table.{Table}
use Rattle.table.proofs.Legality.{legal_of, length_rows, in_range_lem, row-table_rows}
use Rattle.table.proofs.Places.{small_cases}
use Rattle.recorded.specs.Tests.{reading, listed, LegalTest, no_readings, test_refusal, table_of}
use Rattle.recorded.specs.declared.Kind.{Kind}
use Rattle.recorded.specs.declared.Kind.TheVariants.{Pattern, Integer}
use Rattle.recorded.specs.declared.Test.{Test}
use Rattle.recorded.proofs.Legality.{small-place, pattern-zero, zero-or-entry, test_legal, pairs_legal}
use Rattle.file_text.specs.Bytes.{small}
use Rattle.file_text.specs.Lines.{lines}
use Rattle.file_kinds.specs.Banner.{banner_of, first_line}
use Rattle.file_kinds.specs.Kinds.{head_line}
use Rattle.std.specs.Prelude.{Some as Banner}
use Rattle.file_kinds.specs.declared.HeadLine.TheVariants.{Size}
use Rattle.file_reader.specs.private.Reading.{accepted, add_pair, read_entries, read_head, read_lines, read_recorded, pairs_of, read_file, read_test}
use Rattle.file_writer.specs.Writing.{digits, gauge_of, case_of, GaugeCase, row_pairs, pairs_from, pairs, lines_of, size_text, write_file, room_refusal}
use Rattle.file_writer.specs.TestFiles.{entry_text, test_file}
use Rattle.file_writer.proofs.Sizes.{count_bound, test_length}
use Rattle.file_writer.proofs.Files.{pattern_file}
use Rattle.round_trip.proofs.ReadBack.{Over, line_front, fields_three, three_length, text_over, two_over, number_no_comment, entry-over, entry-back}
use Rattle.round_trip.proofs.Gathered.{Visits, gathered, gathered_append, gathered_all, visits_rows}

-- one bit more
mod_more : (r c : ℕ) → r % 2 ^ suc c ≡ (r / 2 ^ c % 2) * 2 ^ c + r % 2 ^ c
mod_more r c = rw (← one-add c) (mod-pow-add r 1 c)

div_more : (r c : ℕ) → r / 2 ^ c / 2 ≡ r / 2 ^ suc c
div_more r c = rw (← add-one c) (shr-shr r c 1)

bit_free : (r c : ℕ) → bit (r % 2 ^ c) c ≡ false
unfolding bit
bit_free r c = rw (div-eq_of_lt (mod-lt r (pow_pos c)))

bit_added : (r c : ℕ) → r / 2 ^ c % 2 ≡ 1 → join (r % 2 ^ c) (2 ^ c) ≡ r % 2 ^ suc c
unfolding join
bit_added r c h =
    (rw (one-mul (2 ^ c)) at (or_shifted_r 1 c (r % 2 ^ c) (mod-lt r (pow_pos c)))) ∙ sym (mod_more r c ∙ rw h (omega arith))

bit_clear : (r c : ℕ) → r / 2 ^ c % 2 ≡ 0 → r % 2 ^ suc c ≡ r % 2 ^ c
bit_clear r c h = mod_more r c ∙ rw h (omega arith)

-- the row of the gauge behind done, and a case more in it
row_at_lem : (done : List ℕ) (x : ℕ) (zs : List ℕ) → get_or (done ++ x ∷ zs) (suc (length done) - 1) 0 ≡ x
row_at_lem done x zs = get_or_at done x zs 0 _ (omega arith)

row_added : (done zs : List ℕ) (r c : ℕ) → r / 2 ^ c % 2 ≡ 1
    → add_pair (done ++ (r % 2 ^ c) ∷ zs) (gauge_of (suc (length done))) (case_of (suc c)) ≡ done ++ (r % 2 ^ suc c) ∷ zs
row_added done zs r c h =
    let e : suc c - 1 ≡ c = omega arith in
    rw (row_at_lem done (r % 2 ^ c) zs, e, bit_added r c h) (set_at done (r % 2 ^ c) zs _ _ (omega arith))

row_free : (done zs : List ℕ) (r c : ℕ) → bit (row (done ++ (r % 2 ^ c) ∷ zs) (suc (length done) - 1)) (suc c - 1) ≡ false
row_free done zs r c =
    let e : suc c - 1 ≡ c = omega arith in
    rw (row_at_lem done (r % 2 ^ c) zs, e) (bit_free r c)

snoc_length : (l : List ℕ) (x : ℕ) → length (l ++ x ∷ []) ≡ suc (length l)
snoc_length l x = simp length-append (omega arith)

-- ---- the entries of a file of a kind, whose readings are vs: small, and 0 in a file of pairs
module _ (kind : Kind) (vs : List ℤ) (few : (p : ℕ) → nat_abs (reading vs p) ≤ 1000000) (none : kind ≡ Pattern → (p : ℕ) → reading vs p ≡ pos 0) where
  -- the reader, ahead of the lines of the pairs ps
  abbrev run : ℕ → ℕ → List ℕ → List ℤ → List GaugeCase → Answer Test
  run gs cs rows us ps = read_entries kind (gauge_of gs) (case_of cs) (length ps) rows us (lines (lines_of (entry_text kind vs) ps))

  run_pair : (gs cs g c : ℕ) (rows : List ℕ) (us : List ℤ) (ps : List GaugeCase) → gs ≤ 64 → cs ≤ 64 → 1 ≤ g → g ≤ gs → 1 ≤ c → c ≤ cs
      → bit (row rows (g - 1)) (c - 1) ≡ false
      → run gs cs rows us (record { gauge = gauge_of g; case = case_of c } ∷ ps)
      ≡ run gs cs (add_pair rows (gauge_of g) (case_of c)) (gathered vs us (record { gauge = gauge_of g; case = case_of c } ∷ [])) ps
  unfolding read_entries
  run_pair gs cs g c rows us ps hgs hcs lg hg lc hc e =
      let p : GaugeCase = record { gauge = gauge_of g; case = case_of c } in
      let s = few ((g - 1) * 64 + (c - 1)) in
      rw (line_front (entry_text kind vs p) (lines_of (entry_text kind vs) ps) (entry-over g c (omega arith) (omega arith) vs s kind))
      (rw (entry-back g c (omega arith) (omega arith) vs s kind (λ z. none z ((g - 1) * 64 + (c - 1))) gs cs lg hg lc hc, read_entries)
      (rw e
      (rw (ne_eqb (suc (length ps)) 0 (omega arith))
      (ap (λ (n : ℕ). read_entries kind (gauge_of gs) (case_of cs) n (add_pair rows (gauge_of g) (case_of c)) (gathered vs us (p ∷ []))
      (lines (lines_of (entry_text kind vs) ps))) (omega arith)))))

  -- the row of the gauge behind done gets the n cases from c
  run_row : (gs cs : ℕ) → gs ≤ 64 → cs ≤ 64 → (r : ℕ) (done zs : List ℕ) → length done < gs → (n c : ℕ) → c + n ≡ cs → (us : List ℤ) (ps : List GaugeCase)
      → run gs cs (done ++ (r % 2 ^ c) ∷ zs) us (row_pairs (gauge_of (suc (length done))) n (suc c) (r / 2 ^ c) ++ ps)
      ≡ run gs cs (done ++ (r % 2 ^ cs) ∷ zs) (gathered vs us (row_pairs (gauge_of (suc (length done))) n (suc c) (r / 2 ^ c))) ps
  unfolding row_pairs
  run_row gs cs hgs hcs r done zs hd zero c e us ps = ap (λ (x : ℕ). run gs cs (done ++ (r % 2 ^ x) ∷ zs) us ps) (omega arith)
  run_row gs cs hgs hcs r done zs hd (suc n) c e us ps =
      go (eqb (r / 2 ^ c % 2) 1) refl (λ ws. run_row gs cs hgs hcs r done zs hd n (suc c) (omega arith) ws ps)
    where
      go : (t : Bool) → eqb (r / 2 ^ c % 2) 1 ≡ t
          → ((ws : List ℤ) → run gs cs (done ++ (r % 2 ^ suc c) ∷ zs) ws (row_pairs (gauge_of (suc (length done))) n (suc (suc c)) (r / 2 ^ suc c) ++ ps)
          ≡ run gs cs (done ++ (r % 2 ^ cs) ∷ zs) (gathered vs ws (row_pairs (gauge_of (suc (length done))) n (suc (suc c)) (r / 2 ^ suc c))) ps)
          → run gs cs (done ++ (r % 2 ^ c) ∷ zs) us (row_pairs (gauge_of (suc (length done))) (suc n) (suc c) (r / 2 ^ c) ++ ps)
          ≡ run gs cs (done ++ (r % 2 ^ cs) ∷ zs) (gathered vs us (row_pairs (gauge_of (suc (length done))) (suc n) (suc c) (r / 2 ^ c))) ps
      go true t ih =
          let p : GaugeCase = record { gauge = gauge_of (suc (length done)); case = case_of (suc c) } in
          rw (t, row_pairs)
          (rw div_more
          (run_pair gs cs (suc (length done)) (suc c) (done ++ (r % 2 ^ c) ∷ zs) us
          (row_pairs (gauge_of (suc (length done))) n (suc (suc c)) (r / 2 ^ suc c) ++ ps)
          hgs hcs (omega arith) (omega arith) (omega arith) (omega arith) (row_free done zs r c)
          ∙ rw (row_added done zs r c (eqb-true _ _ t)) (ih (gathered vs us (p ∷ [])))))
      go false t ih =
          let z : r / 2 ^ c % 2 ≡ 0 = omega (arith, eqb-false (r / 2 ^ c % 2) 1 t) in
          rw (t, row_pairs) (rw div_more (rw (bit_clear r c z) at (ih us)))

  run_whole_row : (gs cs : ℕ) → gs ≤ 64 → cs ≤ 64 → (r : ℕ) → r < 2 ^ cs → (done zs : List ℕ) → length done < gs → (us : List ℤ) (ps : List GaugeCase)
      → run gs cs (done ++ 0 ∷ zs) us (row_pairs (gauge_of (suc (length done))) cs 1 r ++ ps)
      ≡ run gs cs (done ++ r ∷ zs) (gathered vs us (row_pairs (gauge_of (suc (length done))) cs 1 r)) ps
  run_whole_row gs cs hgs hcs r hr done zs hd us ps =
      let m : r % 2 ^ 0 ≡ 0 = omega arith in
      let d : r / 2 ^ 0 ≡ r = omega arith in
      rw (m, d, mod-eq_of_lt hr) at (run_row gs cs hgs hcs r done zs hd cs 0 (omega arith) us ps)

  -- the rows rs of the gauges behind done
  run_rows : (gs cs : ℕ) → gs ≤ 64 → cs ≤ 64 → (rs done zs : List ℕ) → length done + length rs ≡ gs → ((i : ℕ) → get_or rs i 0 < 2 ^ cs) → (us : List ℤ)
      → run gs cs (done ++ (replicate (length rs) 0 ++ zs)) us (pairs_from cs (suc (length done)) rs)
      ≡ accepted (record {
        kind = kind;
        gauges = gs;
        cases = cs;
        entries = done ++ (rs ++ zs);
        readings = gathered vs us
            (pairs_from cs (suc (length done)) rs);
      })
  unfolding pairs_from read_entries lines
  run_rows gs cs hgs hcs [] done zs e h us = refl
  run_rows gs cs hgs hcs (r ∷ rs) done zs e h us =
      let row = row_pairs (gauge_of (suc (length done))) cs 1 r in
      let next = pairs_from cs (suc (suc (length done))) rs in
      run_whole_row gs cs hgs hcs r (h 0) done (replicate (length rs) 0 ++ zs) (omega arith) us next
      ∙ rw (gathered_append vs us row next)
      (rw (append_snoc done r (replicate (length rs) 0 ++ zs), append_snoc done r (rs ++ zs), snoc_length done r)
      at (run_rows gs cs hgs hcs rs (done ++ r ∷ []) zs (simp snoc_length (omega arith)) (λ i. h (suc i)) (gathered vs us row)))

all_zero : (l : List ℕ) → ((i : ℕ) → get_or l i 0 ≡ 0) → l ≡ replicate (length l) 0
all_zero [] h = refl
all_zero (x ∷ l) h = rw (h 0, ← all_zero l (λ i. h (suc i)))

take_bound : (n : ℕ) (l : List ℕ) (m : ℕ) → ((i : ℕ) → get_or l i 0 < m) → (i : ℕ) → get_or (take n l) i 0 < m
take_bound zero l m h i = omega (arith, h i)
take_bound (suc n) [] m h i = h i
take_bound (suc n) (x ∷ l) m h zero = h 0
take_bound (suc n) (x ∷ l) m h (suc i) = take_bound n l m (λ j. h (suc j)) i

all_over : List ℕ → Bool
all_over [] = true
all_over (b ∷ s) = ltb 13 b && all_over s

over_of : (s : List ℕ) → T (all_over s) → Over 13 s
unfolding all_over
over_of [] h = tt
over_of (b ∷ s) h = go (ltb 13 b) refl h (over_of s)
  where
    go : (t : Bool) → ltb 13 b ≡ t → T (t && all_over s) → (T (all_over s) → Over 13 s) → (13 < b) × Over 13 s
    go true e k ih = (ltb-true 13 b e, ih k)
    go false e k ih = absurd k

-- ---- the banner
banner_over : (kind : Kind) → Over 13 (banner_of kind)
unfolding all_over
banner_over Pattern = over_of (banner_of Pattern) tt
banner_over Integer = over_of (banner_of Integer) tt

-- a reader takes the banner of either kind, or of files of pairs alone
banner_first : (integers : Bool) (kind : Kind) → (kind ≡ Integer → integers ≡ true) → first_line integers (banner_of kind) ≡ Banner kind
unfolding small
banner_first integers Pattern h = refl
banner_first integers Integer h = rw (h refl)

file_lines : (integers : Bool) (f : List ℕ) → length f ≤ 65536 → read_recorded integers f ≡ read_lines integers (lines f)
unfolding read_recorded
file_lines integers f h = rw (le-ltb 65536 (length f) h, read_recorded)

empty_row : (k : ℕ) → T (bit 0 k) → ⊥
unfolding bit
empty_row k t = rw (zero-div (2 ^ k)) at t

-- ---- the file
module _ (t : Test) (ok : LegalTest t) where
  abbrev table : Table
  table = listed t

  legal : Legal table
  legal = ok.entries_legal

  rows_split : take t.gauges t.entries ++ replicate (64 - t.gauges) 0 ≡ t.entries
  rows_split =
      let e : length (drop t.gauges t.entries) ≡ 64 - t.gauges = length-drop t.gauges t.entries ∙ rw legal.rows_length in
      let z : drop t.gauges t.entries ≡ replicate (length (drop t.gauges t.entries)) 0 =
      all_zero _ (λ i. get_or-drop t.gauges t.entries i 0 ∙ legal.rows_rest (t.gauges + i) (omega arith)) in
      rw (← e, ← z) (take-append-drop t.gauges t.entries)

  zeros : replicate t.gauges 0 ++ replicate (64 - t.gauges) 0 ≡ no_rows
  zeros =
      let e : t.gauges + (64 - t.gauges) ≡ 64 = omega (arith, legal.gauges_high) in
      replicate-append-replicate t.gauges (64 - t.gauges) 0 ∙ ap (λ (n : ℕ). replicate n 0) e

  head_line_lem : head_line (size_text table) ≡ Size (gauge_of t.gauges) (case_of t.cases) (length (pairs table))
  head_line_lem =
      rw (
        le-ltb 1024 (length (size_text table)) (omega (arith, three_length t.gauges t.cases (length (pairs table)))),
        number_no_comment 9 t.gauges (32 ∷ (digits t.cases ++ 32 ∷ digits (length (pairs table)))) refl,
        fields_three t.gauges t.cases (length (pairs table)) (omega (arith, legal.gauges_high)) (omega (arith, legal.cases_high))
            (omega (arith, count_bound table legal)),
        le-leb 1 t.gauges legal.gauges_low,
        le-leb t.gauges 64 legal.gauges_high,
        le-leb 1 t.cases legal.cases_low,
        le-leb t.cases 64 legal.cases_high,
      )

  abbrev body : List ℕ
  body = lines_of (entry_text t.kind t.readings) (pairs table)

  abbrev runs : List ℕ → List ℤ → List GaugeCase → Answer Test
  runs = run t.kind t.readings (small-place t ok) (pattern-zero t ok) t.gauges t.cases

  head_read : read_head t.kind (lines (size_text table ++ 10 ∷ body)) ≡ runs no_rows no_readings (pairs table)
  unfolding read_head
  head_read =
      rw (line_front (size_text table) body (text_over t.gauges _ (two_over t.cases (length (pairs table)))))
      (rw (head_line_lem, read_head))

  file_read : (integers : Bool) → (t.kind ≡ Integer → integers ≡ true)
      → read_lines integers (lines (test_file t)) ≡ read_head t.kind (lines (size_text table ++ 10 ∷ body))
  unfolding read_lines test_file
  file_read integers h =
      rw (line_front (banner_of t.kind) (size_text table ++ 10 ∷ body) (banner_over t.kind)) (rw (banner_first integers t.kind h, read_lines))

  -- every reading that is not 0 is at an entry
  visited : (i : ℕ) → i < 4096 → (reading t.readings i ≡ pos 0) ⊎ Visits i (pairs table)
  visited i h = go (zero-or-entry t ok i h)
    where
      same : (1 + i / 64 - 1) * 64 + i % 64 ≡ i
      same = omega arith

      there : T (bit (row t.entries (i / 64)) (i % 64)) → Visits i (pairs table)
      there b =
          let r : row (table_rows table) (i / 64) ≡ row t.entries (i / 64) = row-table_rows table legal (i / 64) in
          let c : i % 64 < t.cases = small_cases t.cases t.entries legal.rows_bits (i / 64) (i % 64) b in
          let g : i / 64 < length (table_rows table) = within b in
          subst (λ (m : ℕ). Visits m (pairs table)) same
          (visits_rows t.cases 1 (table_rows table) (i / 64) (i % 64) (omega arith) g c
          (ap (λ (x : ℕ). bit x (i % 64)) r ∙ is_true (bit (row t.entries (i / 64)) (i % 64)) b))
        where
          within : T (bit (row t.entries (i / 64)) (i % 64)) → i / 64 < length (table_rows table)
          within d = inner (dec_lt (i / 64) t.gauges)
            where
              inner : Dec (i / 64 < t.gauges) → i / 64 < length (table_rows table)
              inner (yes k) = omega (arith, length_rows table legal)
              inner (no k) = absurd (empty_row (i % 64) (subst (λ (x : ℕ). T (bit x (i % 64))) (legal.rows_rest (i / 64) (omega arith)) d))

      go : (reading t.readings i ≡ pos 0) ⊎ T (bit (row t.entries (i / 64)) (i % 64)) → (reading t.readings i ≡ pos 0) ⊎ Visits i (pairs table)
      go (inl z) = inl z
      go (inr b) = inr (there b)

  readings_back : gathered t.readings no_readings (pairs table) ≡ t.readings
  readings_back = gathered_all t.readings (pairs table) ok.readings_length visited

  rows_read : runs no_rows no_readings (pairs table) ≡ accepted t
  rows_read =
      rw (length_rows table legal, zeros, rows_split, readings_back)
      at
      (run_rows t.kind t.readings (small-place t ok) (pattern-zero t ok) t.gauges t.cases legal.gauges_high legal.cases_high
      (take t.gauges t.entries) [] (replicate (64 - t.gauges) 0) (omega (arith, length_rows table legal))
      (take_bound t.gauges t.entries (2 ^ t.cases) legal.rows_bits) no_readings)

  read_back : (integers : Bool) → (t.kind ≡ Integer → integers ≡ true) → read_recorded integers (test_file t) ≡ accepted t
  read_back integers h = file_lines integers (test_file t) (omega (arith, test_length t ok)) ∙ file_read integers h ∙ head_read ∙ rows_read

  -- "what is written reads back with the same kind, shape, entries and readings"
  pub test_round_trip : read_recorded true (test_file t) ≡ accepted t
  test_round_trip = read_back true (λ e. refl)

  -- and gives the test's own table at every cutoff
  pub test_reads : (cutoff : ℕ) → 1 ≤ cutoff → cutoff ≤ 1000000
      → read_test (test_file t) cutoff ≡ record { refusal = 0; value = record { test = t; table = table_of t cutoff } }
  unfolding read_test
  test_reads cutoff l h = rw (in_range_lem 1000000 cutoff l h, test_round_trip)

-- ---- tables: a table is written as the pattern test of its pairs
abbrev as_test : Table → Test
as_test t = record { kind = Pattern; gauges = t.gauges; cases = t.cases; entries = t.rows; readings = no_readings }

not_integer : Pattern ≡ Integer → false ≡ true
not_integer e = ap is_integer e
  where
    is_integer : Kind → Bool
    is_integer Pattern = false
    is_integer Integer = true

pub round_trip : (t : Table) → Legal t → read_file (write_file t) ≡ record { refusal = 0; value = t }
unfolding read_file
round_trip t ok =
    ap (λ (f : List ℕ). pairs_of (read_recorded false f)) (sym (pattern_file (as_test t) refl))
    ∙ ap pairs_of (read_back (as_test t) (pairs_legal t ok) false not_integer)

-- ---- whatever a writer takes
pub checks_passed : (r n m : ℕ) → cond (eqb r 0) (cond (ltb n m) 16 0) r ≡ 0 → r ≡ 0
checks_passed zero n m e = refl
checks_passed (suc r) n m e = rw (ne_eqb (suc r) 0 (λ z. omega arith)) at e

pub written_reads : (t : Table) (n : ℕ) → length t.rows ≡ 64 → room_refusal (table_refusal t) (write_file t) n ≡ 0
    → read_file (write_file t) ≡ record { refusal = 0; value = t }
unfolding room_refusal
written_reads t n l e = round_trip t (legal_of t l (checks_passed (table_refusal t) n (length (write_file t)) e))

pub written_test_reads : (t : Test) (n : ℕ) → length t.entries ≡ 64 → length t.readings ≡ 4096 → room_refusal (test_refusal t) (test_file t) n ≡ 0
    → read_recorded true (test_file t) ≡ accepted t
unfolding room_refusal
written_test_reads t n l m e = test_round_trip t (test_legal t l m (checks_passed (test_refusal t) n (length (test_file t)) e))
