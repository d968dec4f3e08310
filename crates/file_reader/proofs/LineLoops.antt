-- A turn of the reader's loops, from the line at a place of the file to the next: one law for each `return` and each way round the
-- loop, its premises the facts of the turn (`EntryTurn`, `HeadTurn`). In order: the entry lines; the lines ahead of them; the whole file.
-- The laws hold for either kind of file.
use Prim.Native.Nat.{ℕ, ◌+◌, ◌-◌, ◌*◌, ◌≤◌, ◌<◌}
use mathlib.Core.Path.{◌≡◌, refl, sym, ◌∙◌}
use mathlib.Core.List.{List, [], ◌∷◌}
use mathlib.Core.Bool.{Bool, true, false}
use native.Mathlib.Omega.{arith}
use lib.IntN.{ℤ}
use lib.ListN.{length, set, take, drop, drop_of_length-le}
use lib.Seq.{take-nil}
use borrow.Author.Tests.{ne_eqb, eq-eqb, lt-ltb, le-ltb}
use mathlib.Core.Logic.{⊎_elim}
use native.Mathlib.Nat.{eq-zero-or-pos}
use native.Mathlib.Numerals.{add-one}
use Rattle.basics.proofs.Clash.{clash}
use Rattle.table.specs.Pairs.{row}
use Rattle.table.specs.Tables.{no_rows}
use Rattle.refusals.specs.Answers.{Answer}
use Rattle.table.specs.declared.Gauge.{Gauge}
use Rattle.table.specs.declared.Case.{Case}
use Rattle.recorded.specs.Tests.{no_readings}
use Rattle.recorded.specs.declared.Kind.{Kind}
use Rattle.recorded.specs.declared.Test.{Test}
use Rattle.refusals.specs.declared.Refusal.{Refusal}
use Rattle.refusals.specs.declared.Refusal.TheVariants.{FileTooLong, NotTheBanner, SizeFields, PairRepeated, PairCount}
use Rattle.file_text.specs.Lines.{lines, span_at}
use Rattle.file_text.proofs.LineAt.{lines-at}
use Rattle.file_kinds.specs.Banner.{first_line, first_line_says}
use Rattle.file_kinds.specs.Kinds.{head_line, head_line_says, entry_line, entry_line_says}
use Rattle.file_reader.specs.private.Reading.{accepted, refused_file, with_case, has_pair, read_entries, read_head, read_lines, read_recorded}
use Rattle.file_reader.specs.private.Stopping.{stop_entries, stop_head, stop_lines, stop_line}
use Rattle.file_kinds.proofs.KindOf.{Bounded, entry_taken, size_range}
use Rattle.file_kinds.proofs.Saying.{first_is, head_is, entry_is}
use Rattle.file_text.specs.declared.Span.{Span}
use Rattle.file_kinds.specs.Banner.{FirstLine}
use Rattle.std.specs.Prelude.{Some as Banner, None as Other}
use Rattle.file_kinds.specs.declared.HeadLine.{HeadLine}
use Rattle.file_kinds.specs.declared.HeadLine.TheVariants.{Size, Skip as skip_head, Bad as bad_head}
use Rattle.file_kinds.specs.declared.EntryLine.{EntryLine}
use Rattle.file_kinds.specs.declared.EntryLine.TheVariants.{Entry, Skip as skip_entry, Bad as bad_entry}

-- the end of the entry lines; A is what the loop started with
module _ (f : List ℕ) (at : ℕ) (kind : Kind) (gs : Gauge) (cs : Case) (left : ℕ) (rows : List ℕ) (vs : List ℤ) (A : Answer Test)
    (q : read_entries kind gs cs left rows vs (lines (drop at f)) ≡ A) (h : length f ≤ at) where
  pub entries_done : left ≡ 0 → accepted (record { kind = kind; gauges = gs.0; cases = cs.0; entries = rows; readings = vs }) ≡ A
  unfolding read_entries lines
  entries_done z = rw (eq-eqb left 0 z) at (rw (drop_of_length-le f h) at q)

  pub entries_fewer : (left ≡ 0 → ⊥) → refused_file PairCount ≡ A
  unfolding read_entries lines
  entries_fewer z = rw (ne_eqb left 0 z) at (rw (drop_of_length-le f h) at q)

-- and the line at which it stops; B is what the loop started with
module _ (f : List ℕ) (at : ℕ) (kind : Kind) (gs : Gauge) (cs : Case) (left : ℕ) (rows : List ℕ) (k B : ℕ)
    (q : stop_entries kind gs cs left rows k (lines (drop at f)) ≡ B) (h : length f ≤ at) where
  pub done_line : left ≡ 0 → 0 ≡ B
  unfolding stop_entries lines
  done_line z = rw (eq-eqb left 0 z) at (rw (drop_of_length-le f h) at q)

  pub fewer_line : (left ≡ 0 → ⊥) → k ≡ B
  unfolding stop_entries lines
  fewer_line z = rw (ne_eqb left 0 z) at (rw (drop_of_length-le f h) at q)

-- a turn of the loop over the entry lines: the line s at the place at is judged as e
pub record EntryTurn (f : List ℕ) (at : ℕ) (s : Span) (kind : Kind) (gs : Gauge) (cs : Case) (left : ℕ) (rows : List ℕ) (vs : List ℤ) (e : EntryLine)
    (A : Answer Test) (k B : ℕ) : Type 0 where
  pub here : at < length f
  pub span : s ≡ span_at f at
  pub judged : entry_line_says e ≡ entry_line_says (entry_line kind gs cs (take (s.end - at) (drop at f)))
  pub goal : read_entries kind gs cs left rows vs (lines (drop at f)) ≡ A
  pub stop : stop_entries kind gs cs left rows k (lines (drop at f)) ≡ B

module _ {f : List ℕ} {at : ℕ} {s : Span} {kind : Kind} {gs : Gauge} {cs : Case} {left : ℕ} {rows : List ℕ} {vs : List ℤ} {e : EntryLine} {A : Answer Test}
    {k B : ℕ} (T : EntryTurn f at s kind gs cs left rows vs e A k B) where
  told : e ≡ entry_line kind gs cs (take (s.end - at) (drop at f))
  told = entry_is kind gs cs (take (s.end - at) (drop at f)) e T.judged

  one_line : (size : ℕ) × (read_entries kind gs cs left rows vs (record { text = take (s.end - at) (drop at f); size = size } ∷ lines (drop s.next f)) ≡ A)
  one_line = let w = lines-at f at s T.span T.here in (w.0, rw w.1 at T.goal)

  one_stop : (size : ℕ) × (stop_entries kind gs cs left rows k (record { text = take (s.end - at) (drop at f); size = size } ∷ lines (drop s.next f)) ≡ B)
  one_stop = let w = lines-at f at s T.span T.here in (w.0, rw w.1 at T.stop)

  pub skip_line : e ≡ skip_entry → stop_entries kind gs cs left rows (k + 1) (lines (drop s.next f)) ≡ B
  unfolding stop_entries
  skip_line x = rw add-one (rw (sym told ∙ x, stop_entries) at one_stop.1)

  pub bad_line : {x : Refusal} → e ≡ bad_entry x → k ≡ B
  unfolding stop_entries
  bad_line x = rw (sym told ∙ x, stop_entries) at one_stop.1

  pub turn_skip : e ≡ skip_entry → read_entries kind gs cs left rows vs (lines (drop s.next f)) ≡ A
  unfolding read_entries
  turn_skip x = rw (sym told ∙ x, read_entries) at one_line.1

  pub turn_bad : {x : Refusal} → e ≡ bad_entry x → refused_file x ≡ A
  unfolding read_entries
  turn_bad x = rw (sym told ∙ x, read_entries) at one_line.1

  module _ {g : Gauge} {c : Case} {v : ℤ} (x : e ≡ Entry g c v) where
    pub turn-range : Bounded gs cs g c
    turn-range = (entry_taken kind gs cs (take (s.end - at) (drop at f)) g c v (sym x ∙ told)).places

    module _ {t : Bool} (d : t ≡ has_pair rows g c) where
      pub turn-repeated : t ≡ true → refused_file PairRepeated ≡ A
      unfolding read_entries
      turn-repeated y = rw (sym d ∙ y) at (rw (sym told ∙ x, read_entries) at one_line.1)

      pub turn_more : t ≡ false → left ≡ 0 → refused_file PairCount ≡ A
      unfolding read_entries
      turn_more y z = rw (eq-eqb left 0 z) at (rw (sym d ∙ y) at (rw (sym told ∙ x, read_entries) at one_line.1))

      pub repeated-line : t ≡ true → k ≡ B
      unfolding stop_entries
      repeated-line y = rw (sym d ∙ y) at (rw (sym told ∙ x, stop_entries) at one_stop.1)

      pub more-line : t ≡ false → left ≡ 0 → k ≡ B
      unfolding stop_entries
      more-line y z = rw (eq-eqb left 0 z) at (rw (sym d ∙ y) at (rw (sym told ∙ x, stop_entries) at one_stop.1))

      pub taken-line : t ≡ false → (left ≡ 0 → ⊥) → (r : ℕ) → r ≡ with_case (row rows (g.0 - 1)) c
          → stop_entries kind gs cs (left - 1) (set rows (g.0 - 1) r) (k + 1) (lines (drop s.next f)) ≡ B
      unfolding stop_entries
      taken-line y n r w = rw (w, add-one) (rw (ne_eqb left 0 n) at (rw (sym d ∙ y) at (rw (sym told ∙ x, stop_entries) at one_stop.1)))

      -- r is the row with the case, and z what the code handed on of the reading
      pub turn-entry : t ≡ false → (left ≡ 0 → ⊥) → (r : ℕ) → r ≡ with_case (row rows (g.0 - 1)) c → (z : ℤ) → z ≡ v
          → read_entries kind gs cs (left - 1) (set rows (g.0 - 1) r) (set vs ((g.0 - 1) * 64 + (c.0 - 1)) z) (lines (drop s.next f)) ≡ A
      unfolding read_entries
      turn-entry y n r w z q = rw (w, q) (rw (ne_eqb left 0 n) at (rw (sym d ∙ y) at (rw (sym told ∙ x, read_entries) at one_line.1)))

-- the end of the lines ahead of the entries
pub head_absent : (f : List ℕ) (at : ℕ) (kind : Kind) (A : Answer Test) → read_head kind (lines (drop at f)) ≡ A → length f ≤ at → refused_file SizeFields ≡ A
unfolding read_head lines
head_absent f at kind A q h = rw (drop_of_length-le f h) at q

pub absent_line : (f : List ℕ) (at : ℕ) (kind : Kind) (k B : ℕ) → stop_head kind k (lines (drop at f)) ≡ B → length f ≤ at → k ≡ B
unfolding stop_head lines
absent_line f at kind k B q h = rw (drop_of_length-le f h) at q

-- a turn of the loop over the lines ahead of the entries
pub record HeadTurn (f : List ℕ) (at : ℕ) (s : Span) (kind : Kind) (e : HeadLine) (A : Answer Test) (k B : ℕ) : Type 0 where
  pub here : at < length f
  pub span : s ≡ span_at f at
  pub judged : head_line_says e ≡ head_line_says (head_line (take (s.end - at) (drop at f)))
  pub goal : read_head kind (lines (drop at f)) ≡ A
  pub stop : stop_head kind k (lines (drop at f)) ≡ B

module _ {f : List ℕ} {at : ℕ} {s : Span} {kind : Kind} {e : HeadLine} {A : Answer Test} {k B : ℕ} (T : HeadTurn f at s kind e A k B) where
  told_head : e ≡ head_line (take (s.end - at) (drop at f))
  told_head = head_is (take (s.end - at) (drop at f)) e T.judged

  one_head : (size : ℕ) × (read_head kind (record { text = take (s.end - at) (drop at f); size = size } ∷ lines (drop s.next f)) ≡ A)
  one_head = let w = lines-at f at s T.span T.here in (w.0, rw w.1 at T.goal)

  one_ahead : (size : ℕ) × (stop_head kind k (record { text = take (s.end - at) (drop at f); size = size } ∷ lines (drop s.next f)) ≡ B)
  one_ahead = let w = lines-at f at s T.span T.here in (w.0, rw w.1 at T.stop)

  pub skipped_line : e ≡ skip_head → stop_head kind (k + 1) (lines (drop s.next f)) ≡ B
  unfolding stop_head
  skipped_line x = rw add-one (rw (sym told_head ∙ x, stop_head) at one_ahead.1)

  pub head_bad_line : {x : Refusal} → e ≡ bad_head x → k ≡ B
  unfolding stop_head
  head_bad_line x = rw (sym told_head ∙ x, stop_head) at one_ahead.1

  pub head_skip : e ≡ skip_head → read_head kind (lines (drop s.next f)) ≡ A
  unfolding read_head
  head_skip x = rw (sym told_head ∙ x, read_head) at one_head.1

  pub head_bad : {x : Refusal} → e ≡ bad_head x → refused_file x ≡ A
  unfolding read_head
  head_bad x = rw (sym told_head ∙ x, read_head) at one_head.1

  module _ {g : Gauge} {c : Case} {n : ℕ} (x : e ≡ Size g c n) where
    pub head-range : Bounded (record { 0 = 64 }) (record { 0 = 64 }) g c
    head-range = size_range (take (s.end - at) (drop at f)) g c n (sym x ∙ told_head)

    pub size-line : stop_entries kind g c n no_rows (k + 1) (lines (drop s.next f)) ≡ B
    unfolding stop_head
    size-line = rw add-one (rw (sym told_head ∙ x, stop_head) at one_ahead.1)

    pub head-size : read_entries kind g c n no_rows no_readings (lines (drop s.next f)) ≡ A
    unfolding read_head
    head-size = rw (sym told_head ∙ x, read_head) at one_head.1

-- the file as a whole and its first line
pub file_long : (integers : Bool) (f : List ℕ) → 65536 < length f → refused_file FileTooLong ≡ read_recorded integers f
unfolding read_recorded
file_long integers f h = sym (rw (lt-ltb 65536 (length f) h, read_recorded))

pub long_line : (integers : Bool) (f : List ℕ) → 65536 < length f → 0 ≡ stop_line integers f
unfolding stop_line
long_line integers f h = sym (rw (lt-ltb 65536 (length f) h, stop_line))

-- an empty line is no banner
empty_other : (integers : Bool) → first_line integers [] ≡ Other
empty_other true = refl
empty_other false = refl

module _ (integers : Bool) (f : List ℕ) (h : length f ≤ 65536) (s : Span) (e : s ≡ span_at f 0) (b : FirstLine)
    (p : first_line_says b ≡ first_line_says (first_line integers (take (s.end - 0) (drop 0 f)))) where
  told_first : b ≡ first_line integers (take (s.end - 0) (drop 0 f))
  told_first = first_is integers (take (s.end - 0) (drop 0 f)) b p

  file_lines : read_recorded integers f ≡ read_lines integers (lines f)
  unfolding read_recorded
  file_lines = rw (le-ltb 65536 (length f) h, read_recorded)

  no_lines : length f ≡ 0 → read_lines integers (lines f) ≡ refused_file NotTheBanner
  unfolding read_lines lines
  no_lines z =
      let n : f ≡ [] = drop_of_length-le f {i = 0} (omega arith) in
      rw n

  first_line_lem : 0 < length f
      → read_lines integers (lines f) ≡ elim b [ Banner kind ↦ read_head kind (lines (drop s.next f)) | Other ↦ refused_file NotTheBanner ]
  unfolding read_lines
  first_line_lem z = rw (lines-at f 0 s e z).1 (rw (← told_first, read_lines))

  not_empty : {kind : Kind} → b ≡ Banner kind → 0 < length f
  not_empty {kind} x = go f refl
    where
      go : (g : List ℕ) → f ≡ g → 0 < length f
      go [] q =
          let w : Banner kind ≡ Other = sym x ∙ told_first ∙ (rw (q, take-nil (s.end - 0)) (empty_other integers)) in
          clash cc
      go (a ∷ g) q = rw q (omega arith)

  pub file_other : b ≡ Other → refused_file NotTheBanner ≡ read_recorded integers f
  file_other x = sym (file_lines ∙ ⊎_elim no_lines (λ z. first_line_lem z ∙ rw x) (eq-zero-or-pos (length f)))

  pub file_head : {kind : Kind} → b ≡ Banner kind → read_head kind (lines (drop s.next f)) ≡ read_recorded integers f
  file_head x = sym (file_lines ∙ first_line_lem (not_empty x) ∙ rw x)

  stop_lines_lem : stop_line integers f ≡ stop_lines integers (lines f)
  unfolding stop_line
  stop_lines_lem = rw (le-ltb 65536 (length f) h, stop_line)

  no_stop : length f ≡ 0 → stop_lines integers (lines f) ≡ 1
  unfolding stop_lines lines
  no_stop z =
      let n : f ≡ [] = drop_of_length-le f {i = 0} (omega arith) in
      rw n

  first_stop : 0 < length f → stop_lines integers (lines f) ≡ elim b [ Banner kind ↦ stop_head kind 2 (lines (drop s.next f)) | Other ↦ 1 ]
  unfolding stop_lines
  first_stop z = rw (lines-at f 0 s e z).1 (rw (← told_first, stop_lines))

  pub other_line : b ≡ Other → 1 ≡ stop_line integers f
  other_line x = sym (stop_lines_lem ∙ ⊎_elim no_stop (λ z. first_stop z ∙ rw x) (eq-zero-or-pos (length f)))

  pub head_from : {kind : Kind} → b ≡ Banner kind → stop_head kind 2 (lines (drop s.next f)) ≡ stop_line integers f
  head_from x = sym (stop_lines_lem ∙ first_stop (not_empty x) ∙ rw x)
