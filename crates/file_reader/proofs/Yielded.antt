-- What the readers yield. Every test that is read is legal, of a kind that is taken, and beside a refusal is the
-- blank test (`recorded_sound`, one induction over the lines for either kind). So: every table that 01's reader
-- yields is legal (`read_legal`), and every test that the reader with a cutoff yields (`read_test_legal`). And a file
-- of more than 65,536 bytes is refused with 1, whatever it holds (`read_too_long`). Which entries are gathered so far
-- is in Held.antt.
use Prim.Native.Nat.{ℕ, ◌-◌, ◌<◌}
use mathlib.Core.Path.{◌≡◌, refl, sym, ap}
use mathlib.Core.List.{List, [], ◌∷◌}
use mathlib.Core.Bool.{Bool, true, false, cond}
use native.Mathlib.Omega.{arith}
use lib.IntN.{ℤ}
use lib.ListN.{length}
use lib.Dec.{eqb, ltb}
use Rattle.table.specs.Tables.{Legal, no_rows, blank_table}
use Rattle.refusals.specs.Answers.{Answer, refused}
use Rattle.refusals.specs.declared.Refusal.{Refusal}
use Rattle.refusals.specs.declared.Refusal.TheVariants.{FileTooLong, NotTheBanner, SizeFields, PairRepeated, PairCount}
use Rattle.table.specs.declared.Gauge.{Gauge}
use Rattle.table.specs.declared.Case.{Case}
use Rattle.recorded.specs.Tests.{LegalTest, no_readings, blank_test}
use Rattle.recorded.specs.declared.Kind.{Kind}
use Rattle.recorded.specs.declared.Test.{Test}
use Rattle.file_text.specs.Lines.{Line, lines}
use Rattle.file_kinds.specs.Banner.{takes, first_line}
use Rattle.file_kinds.specs.Kinds.{head_line, entry_line}
use Rattle.file_kinds.specs.Banner.{FirstLine}
use Rattle.std.specs.Prelude.{Some as Banner, None as Other}
use Rattle.file_kinds.specs.declared.HeadLine.{HeadLine}
use Rattle.file_kinds.specs.declared.HeadLine.TheVariants.{Size, Skip as skip_head, Bad as bad_head}
use Rattle.file_kinds.specs.declared.EntryLine.{EntryLine}
use Rattle.file_kinds.specs.declared.EntryLine.TheVariants.{Entry, Skip as skip_entry, Bad as bad_entry}
use Rattle.file_kinds.proofs.KindOf.{Bounded, entry_taken, size_range}
use Rattle.file_kinds.proofs.Opening.{first_only}
use Rattle.refusals.proofs.Answering.{number_pos}
use Rattle.file_reader.specs.private.Reading.{
  accepted,
  refused_file,
  has_pair,
  add_pair,
  add_reading,
  read_entries,
  read_head,
  read_lines,
  read_recorded,
  pairs_of,
  read_file,
}
use Rattle.file_reader.proofs.Held.{Held, held_none, held_more}
use Rattle.file_reader.proofs.LineLoops.{file_long}

-- an answer: a legal test of a kind that ok holds of, or a refusal with the blank test
pub record Sound (ok : Kind → Type 0) (a : Answer Test) : Type 0 where
  pub given : a.refusal ≡ 0 → LegalTest a.value × ok a.value.kind
  pub blank : (a.refusal ≡ 0 → ⊥) → a.value ≡ blank_test

-- a refusal is not 0
refusal_sound : (ok : Kind → Type 0) (x : Refusal) → Sound ok (refused_file x)
refusal_sound ok x = record { given = λ e. absurd (omega (arith, number_pos x)); blank = λ n. refl }

test_sound : (ok : Kind → Type 0) (t : Test) → LegalTest t → ok t.kind → Sound ok (accepted t)
test_sound ok t l k = record { given = λ e. (l, k); blank = λ n. absurd (n refl) }

-- what was gathered up to the end of the file is legal
held_legal : {kind : Kind} {gs : Gauge} {cs : Case} {rows : List ℕ} {vs : List ℤ}
    → Bounded (record { 0 = 64 }) (record { 0 = 64 }) gs cs → Held kind gs cs rows vs
    → LegalTest (record { kind = kind; gauges = gs.0; cases = cs.0; entries = rows; readings = vs })
held_legal {kind} {gs} {cs} {rows} {vs} b r = record {
  entries_legal = record {
    gauges_low = b.gauge_low;
    gauges_high = b.gauge_high;
    cases_low = b.case_low;
    cases_high = b.case_high;
    rows_length = r.size;
    rows_bits = r.bits;
    rows_rest = r.rest;
  };
  readings_length = r.values;
  at_entry = λ g c p q x y n. let (k, h) = r.there (g - 1) (c - 1) (omega arith) (omega arith) n in (k, record { gauge = p; case = x; set = h });
  small = λ g c p q x y. r.small _;
}

module _ (kind : Kind) (ok : Kind → Type 0) (k : ok kind) where
  entries_sound : {gs : Gauge} {cs : Case} → Bounded (record { 0 = 64 }) (record { 0 = 64 }) gs cs → (left : ℕ) (rows : List ℕ) (vs : List ℤ)
      → Held kind gs cs rows vs → (ls : List Line) → Sound ok (read_entries kind gs cs left rows vs ls)
  unfolding read_entries
  entries_sound {gs} {cs} b left rows vs r [] = go (eqb left 0)
    where
      t : Test
      t = record { kind = kind; gauges = gs.0; cases = cs.0; entries = rows; readings = vs }

      go : (u : Bool) → Sound ok (cond u (accepted t) (refused_file PairCount))
      go true = test_sound ok t (held_legal b r) k
      go false = refusal_sound ok PairCount
  entries_sound {gs} {cs} b left rows vs r (l ∷ ls) =
      go (entry_line kind gs cs l.text) refl (entries_sound b left rows vs r ls) (λ w x h. entries_sound b (left - 1) w x h ls)
    where
      go : (e : EntryLine) → entry_line kind gs cs l.text ≡ e → Sound ok (read_entries kind gs cs left rows vs ls)
          → ((w : List ℕ) (x : List ℤ) → Held kind gs cs w x → Sound ok (read_entries kind gs cs (left - 1) w x ls))
          → Sound ok (read_entries kind gs cs left rows vs (l ∷ ls))
      go skip_entry p ih more = rw (p, read_entries) ih
      go (bad_entry x) p ih more = rw (p, read_entries) (refusal_sound ok x)
      go (Entry g c v) p ih more = rw (p, read_entries) (take (has_pair rows g c) (eqb left 0))
        where
          take : (t u : Bool)
              → Sound ok (elim t [
                | true ↦ refused_file PairRepeated
                | false ↦ elim u [ true ↦ refused_file PairCount | false ↦ read_entries kind gs cs (left - 1) (add_pair rows g c) (add_reading vs g c v) ls ]
              ])
          take true u = refusal_sound ok PairRepeated
          take false true = refusal_sound ok PairCount
          take false false =
              more (add_pair rows g c) (add_reading vs g c v)
              (held_more b.gauge_high b.case_high r (entry_taken kind gs cs l.text g c v (sym p)))

  head_sound : (ls : List Line) → Sound ok (read_head kind ls)
  unfolding read_head
  head_sound [] = refusal_sound ok SizeFields
  head_sound (l ∷ ls) = go (head_line l.text) refl (head_sound ls)
    where
      go : (h : HeadLine) → head_line l.text ≡ h → Sound ok (read_head kind ls) → Sound ok (read_head kind (l ∷ ls))
      go skip_head p ih = rw (p, read_head) ih
      go (bad_head x) p ih = rw (p, read_head) (refusal_sound ok x)
      go (Size g c n) p ih =
          rw (p, read_head) (entries_sound (size_range l.text g c n (sym p)) n no_rows no_readings (held_none kind g c) ls)

abbrev Taking : Bool → Kind → Type 0
Taking integers kind = takes integers kind ≡ true

lines_sound : (integers : Bool) (ls : List Line) → Sound (Taking integers) (read_lines integers ls)
unfolding read_lines
lines_sound integers [] = refusal_sound (Taking integers) NotTheBanner
lines_sound integers (l ∷ ls) = go (first_line integers l.text) refl
  where
    go : (b : FirstLine) → first_line integers l.text ≡ b
        → Sound (Taking integers) (elim b [ Banner kind ↦ read_head kind ls | Other ↦ refused_file NotTheBanner ])
    go (Banner kind) p = head_sound kind (Taking integers) (first_only integers kind l.text p).taken ls
    go Other p = refusal_sound (Taking integers) NotTheBanner

pub recorded_sound : (integers : Bool) (f : List ℕ) → Sound (Taking integers) (read_recorded integers f)
unfolding read_recorded
recorded_sound integers f = go (ltb 65536 (length f))
  where
    go : (t : Bool) → Sound (Taking integers) (elim t [ true ↦ refused_file FileTooLong | false ↦ read_lines integers (lines f) ])
    go true = refusal_sound (Taking integers) FileTooLong
    go false = lines_sound integers (lines f)

-- ---- 01's reader
pub read_legal : (f : List ℕ) → (read_file f).refusal ≡ 0 → Legal (read_file f).value
unfolding read_file
read_legal f e = ((recorded_sound false f).given e).0.entries_legal

pub read_too_long : (f : List ℕ) → 65536 < length f → read_file f ≡ refused FileTooLong blank_table
unfolding read_file
read_too_long f h = ap pairs_of (sym (file_long false f h))
