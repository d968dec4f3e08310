-- What reading gives, by the lines of the file (specs/Files.antt). A legal file is accepted, and the test holds what
-- its entry lines name (`legal_read`); a file with a fault gets that fault's refusal, at its line (`fault_read`); and
-- every file is legal or has a fault (`judged`). So a file is accepted exactly when it is legal, and refused with n
-- exactly when its first failing line fails with n (`legal_accepted`, `accepted_legal`, `fault_refused`,
-- `refused_fault`), never both (`legal_no_fault`) and for one reason at one line (`one_fault`). Which lines name the
-- entries: `listed_line`, `line_listed`. That a file is legal in one way only is in OneWay.antt.
--
-- Pins, which nothing else cites: `refused_fault`.
use Prim.Native.Nat.{ℕ, suc, ◌+◌, ◌-◌, ◌≤◌, ◌<◌}
use mathlib.Core.Path.{◌≡◌, refl, sym, ap, subst, ◌∙◌}
use mathlib.Core.Logic.{◌⊎◌, inl, inr}
use mathlib.Core.List.Memᴰ
use mathlib.Core.List.{List, [], ◌∷◌, ◌++◌, map, append_assoc, Memᴰ}
use mathlib.Core.Bool.{Bool, true}
use native.Mathlib.Omega.{arith}
use native.Mathlib.Decide.{dec_lt}
use lib.IntN.{ℤ}
use lib.ListN.{length}
use borrow.Author.Tests.{le-ltb, lt-ltb}
use Rattle.basics.proofs.Clash.{clash}
use Rattle.sets.specs.Sets.{bit}
use Rattle.sets.proofs.Tests.{is_true}
use Rattle.table.specs.Pairs.{row}
use Rattle.table.specs.Tables.{no_rows}
use Rattle.table.specs.declared.Gauge.{Gauge}
use Rattle.table.specs.declared.Case.{Case}
use Rattle.recorded.specs.Tests.{no_readings}
use Rattle.recorded.specs.declared.Kind.{Kind}
use Rattle.recorded.specs.declared.Test.{Test}
use Rattle.refusals.specs.Answers.{Answer, number}
use Rattle.refusals.specs.declared.Refusal.{Refusal}
use Rattle.refusals.specs.declared.Refusal.TheVariants.{NotTheBanner, SizeFields, PairCount}
use Rattle.refusals.proofs.Answering.{number_pos, number_injective}
use Rattle.file_text.specs.Lines.{Line, lines}
use Rattle.file_kinds.specs.Banner.{first_line}
use Rattle.file_kinds.specs.Kinds.{head_line}
use Rattle.file_kinds.specs.Banner.{FirstLine}
use Rattle.std.specs.Prelude.{Some as Banner, None as Other}
use Rattle.file_kinds.specs.declared.HeadLine.{HeadLine}
use Rattle.file_kinds.specs.declared.HeadLine.TheVariants.{Size, Skip as skip_head, Bad as bad_head}
use Rattle.file_kinds.specs.declared.EntryLine.TheVariants.{Entry, Skip as skip_entry}
use Rattle.file_kinds.proofs.KindOf.{size_range}
use Rattle.file_reader.specs.private.Reading.{accepted, refused_file, has_pair, read_head, read_lines, read_recorded}
use Rattle.file_kinds.specs.OneLine.{PassedLine, BlankLine}
use Rattle.file_reader.specs.Files.{
  Every,
  all_none,
  all_more,
  Heading,
  Named,
  name,
  IsEntry,
  Lists,
  lists_none,
  lists_blank,
  lists_entry,
  Names,
  Opened,
  Sized,
  Fine,
  LegalFile,
  IsLegal,
  Holds,
  EntryFault,
  malformed,
  repeated,
  too_many,
  Fault,
  file_too_long,
  no_line,
  no_banner,
  bad_head_line,
  no_size,
  bad_entry_line,
  too_few,
  Judged,
  legal,
  faulty,
}
use Rattle.file_text.proofs.LinesLaw.{text_of, texts, lines_only, lines_to}
use Rattle.file_text.specs.Texts.{Text, LinesAre, no_lines}
use Rattle.file_kinds.proofs.Opening.{first_mixed, first_only, first_none}
use Rattle.file_kinds.proofs.LineWords.{passed_line, size_line, blank_line, entry_line_lem as entry_words, bad_head_lem, bad_entry_lem}
use Rattle.file_reader.specs.private.Stopping.{stop_head, stop_lines, stop_line}
use Rattle.file_reader.proofs.LineLoops.{file_long}
use Rattle.file_reader.proofs.FileRuns.{naming, named, FineRun, FirstFault, lists_named, fine_run, run_fine, run_or_fault}
use Rattle.file_reader.proofs.FileStates.{
  In64,
  State,
  RanTo,
  reads,
  stops,
  in_64,
  state_none,
  is_free,
  state_holds,
  run_read,
  read_bad,
  read_repeated,
  read_many,
  read_done,
  read_few,
  stop_bad,
  stop_repeated,
  stop_many,
  stop_done,
  stop_few,
}

-- ---- lines and their texts
-- the lines of a first part of the texts, and those of the rest
pub record Split (ls : List Line) (a b : List Text) : Type 0 where
  pub front : List Line
  pub back : List Line
  pub whole : ls ≡ front ++ back
  pub front_is : map text_of front ≡ a
  pub back_is : map text_of back ≡ b

pub split : (ls : List Line) (a b : List Text) → map text_of ls ≡ a ++ b → Split ls a b
split ls [] b e = record { front = []; back = ls; whole = refl; front_is = refl; back_is = e }
split [] (x ∷ a) b e = clash cc
split (l ∷ ls) (x ∷ a) b e =
    let p : l.text ≡ x = cc in
    let q : map text_of ls ≡ a ++ b = cc in
    let w = split ls a b q in
    record {
      front = l ∷ w.front;
      back = w.back;
      whole = ap (λ (y : List Line). l ∷ y) w.whole;
      front_is = cc w.front_is;
      back_is = w.back_is;
    }

pub record Cons (ls : List Line) (x : Text) (b : List Text) : Type 0 where
  pub line : Line
  pub back : List Line
  pub whole : ls ≡ line ∷ back
  pub text_is : line.text ≡ x
  pub back_is : map text_of back ≡ b

pub cons : (ls : List Line) (x : Text) (b : List Text) → map text_of ls ≡ x ∷ b → Cons ls x b
cons [] x b e = clash cc
cons (l ∷ ls) x b e = record { line = l; back = ls; whole = refl; text_is = cc; back_is = cc }

lines_none : (f : List ℕ) → f ≡ [] → lines f ≡ []
unfolding lines
lines_none f e = rw e

pub none : (ls : List Line) → map text_of ls ≡ [] → ls ≡ []
none [] e = refl
none (l ∷ ls) e = clash cc

append_nil : (ls : List Line) → ls ++ [] ≡ ls
append_nil [] = refl
append_nil (l ∷ ls) = ap (λ (x : List Line). l ∷ x) (append_nil ls)

texts_length : (ls : List Line) (ts : List Text) → map text_of ls ≡ ts → length ls ≡ length ts
texts_length [] ts e = ap length e
texts_length (l ∷ ls) ts e = ap suc (texts_length ls (map text_of ls) refl) ∙ ap length e

-- ---- the line at which the reader stops, up to the size line
stop_file : (integers : Bool) (f : List ℕ) → length f ≤ 65536 → stop_line integers f ≡ stop_lines integers (lines f)
unfolding stop_line
stop_file integers f h = rw (le-ltb 65536 (length f) h, stop_line)

stop_long : (integers : Bool) (f : List ℕ) → 65536 < length f → stop_line integers f ≡ 0
unfolding stop_line
stop_long integers f h = rw (lt-ltb 65536 (length f) h, stop_line)

stop_banner : (integers : Bool) (l : Line) (ls : List Line) (kind : Kind) → first_line integers l.text ≡ Banner kind
    → stop_lines integers (l ∷ ls) ≡ stop_head kind 2 ls
unfolding stop_lines
stop_banner integers l ls kind p = rw (p, stop_lines)

stop_other : (integers : Bool) (l : Line) (ls : List Line) → first_line integers l.text ≡ Other → stop_lines integers (l ∷ ls) ≡ 1
unfolding stop_lines
stop_other integers l ls p = rw (p, stop_lines)

stop_none : (integers : Bool) → stop_lines integers [] ≡ 1
unfolding stop_lines
stop_none integers = refl

stop_pass : (kind : Kind) (k : ℕ) (l : Line) (ls : List Line) → PassedLine l.text → stop_head kind k (l ∷ ls) ≡ stop_head kind (suc k) ls
unfolding stop_head
stop_pass kind k l ls p = rw ((passed_line l.text).1 p, stop_head)

stop_head_bad : (kind : Kind) (k : ℕ) (l : Line) (ls : List Line) (why : Refusal) → head_line l.text ≡ bad_head why → stop_head kind k (l ∷ ls) ≡ k
unfolding stop_head
stop_head_bad kind k l ls why p = rw (p, stop_head)

stop_size : (h : Heading) (k : ℕ) (l : Line) (ls : List Line) → head_line l.text ≡ Size h.gauges h.cases h.count
    → stop_head h.kind k (l ∷ ls) ≡ stops h h.count no_rows (suc k) ls
unfolding stop_head
stop_size h k l ls p = rw (p, stop_head)

stop_head_none : (kind : Kind) (k : ℕ) → stop_head kind k [] ≡ k
unfolding stop_head
stop_head_none kind k = refl

stop_run : (kind : Kind) (k : ℕ) (ls rest : List Line) → Every PassedLine (map text_of ls) → stop_head kind k (ls ++ rest) ≡ stop_head kind (length ls + k) rest
stop_run kind k [] rest all_none = ap (λ (n : ℕ). stop_head kind n rest) (omega arith)
stop_run kind k (l ∷ ls) rest (all_more p a) =
    stop_pass kind k l (ls ++ rest) p ∙ stop_run kind (suc k) ls rest a ∙ ap (λ (n : ℕ). stop_head kind n rest) (omega arith)

-- ---- the reader up to the size line
file_lines : (integers : Bool) (f : List ℕ) → length f ≤ 65536 → read_recorded integers f ≡ read_lines integers (lines f)
unfolding read_recorded
file_lines integers f h = rw (le-ltb 65536 (length f) h, read_recorded)

first_banner : (integers : Bool) (l : Line) (ls : List Line) (kind : Kind) → first_line integers l.text ≡ Banner kind
    → read_lines integers (l ∷ ls) ≡ read_head kind ls
unfolding read_lines
first_banner integers l ls kind p = rw (p, read_lines)

first_other : (integers : Bool) (l : Line) (ls : List Line) → first_line integers l.text ≡ Other → read_lines integers (l ∷ ls) ≡ refused_file NotTheBanner
unfolding read_lines
first_other integers l ls p = rw (p, read_lines)

read_none : (integers : Bool) → read_lines integers [] ≡ refused_file NotTheBanner
unfolding read_lines
read_none integers = refl

head_pass : (kind : Kind) (l : Line) (ls : List Line) → PassedLine l.text → read_head kind (l ∷ ls) ≡ read_head kind ls
unfolding read_head
head_pass kind l ls p = rw ((passed_line l.text).1 p, read_head)

head_bad : (kind : Kind) (l : Line) (ls : List Line) (why : Refusal) → head_line l.text ≡ bad_head why → read_head kind (l ∷ ls) ≡ refused_file why
unfolding read_head
head_bad kind l ls why p = rw (p, read_head)

head_size : (h : Heading) (l : Line) (ls : List Line) → head_line l.text ≡ Size h.gauges h.cases h.count
    → read_head h.kind (l ∷ ls) ≡ reads h h.count no_rows no_readings ls
unfolding read_head
head_size h l ls p = rw (p, read_head)

head_none : (kind : Kind) → read_head kind [] ≡ refused_file SizeFields
unfolding read_head
head_none kind = refl

head_run : (kind : Kind) (ls rest : List Line) → Every PassedLine (map text_of ls) → read_head kind (ls ++ rest) ≡ read_head kind rest
head_run kind [] rest all_none = refl
head_run kind (l ∷ ls) rest (all_more p a) = head_pass kind l (ls ++ rest) p ∙ head_run kind ls rest a

-- where the reader is after the lines that are passed over
record Stands (integers : Bool) (f : List ℕ) (kind : Kind) (passed rest : List Text) : Type 0 where
  pub back : List Line
  pub back_is : map text_of back ≡ rest
  pub same : read_recorded integers f ≡ read_head kind back
  pub line : stop_line integers f ≡ stop_head kind (2 + length passed) back

opened_read : {integers : Bool} {f : List ℕ} {kind : Kind} {passed rest : List Text} → Opened integers f kind passed rest
    → Stands integers f kind passed rest
opened_read {integers} {f} {kind} {passed} {rest} o =
    let c = cons (lines f) o.first (passed ++ rest) (lines_only f (o.first ∷ (passed ++ rest)) o.lines_are) in
    let w = split c.back passed rest c.back_is in
    let p : first_line integers c.line.text ≡ Banner kind = ap (first_line integers) c.text_is ∙ first_mixed integers kind o.first o.banner in
    let q : Every PassedLine (map text_of w.front) = subst (Every PassedLine) (sym w.front_is) o.passing in
    record {
      back = w.back;
      back_is = w.back_is;
      same =
          file_lines integers f o.short
          ∙ ap (read_lines integers) c.whole
          ∙ first_banner integers c.line c.back kind p
          ∙ ap (read_head kind) w.whole
          ∙ head_run kind w.front w.back q;
      line =
          stop_file integers f o.short
          ∙ ap (stop_lines integers) c.whole
          ∙ stop_banner integers c.line c.back kind p
          ∙ ap (stop_head kind 2) w.whole
          ∙ stop_run kind 2 w.front w.back q
          ∙ ap (λ (n : ℕ). stop_head kind n w.back) (omega (arith, texts_length w.front passed w.front_is));
    }

record Entered (integers : Bool) (f : List ℕ) (h : Heading) (passed body : List Text) : Type 0 where
  pub back : List Line
  pub back_is : map text_of back ≡ body
  pub same : read_recorded integers f ≡ reads h h.count no_rows no_readings back
  pub line : stop_line integers f ≡ stops h h.count no_rows (3 + length passed) back
  pub gauges : h.gauges.0 ≤ 64
  pub cases : h.cases.0 ≤ 64

sized_read : {integers : Bool} {f : List ℕ} {h : Heading} {passed body : List Text} → Sized integers f h passed body
    → Entered integers f h passed body
sized_read {integers} {f} {h} {passed} {body} z =
    let o = opened_read z.opened in
    let c = cons o.back z.size body o.back_is in
    let i = (size_line z.size h.gauges h.cases h.count).1 z.is_size in
    let b = size_range z.size h.gauges h.cases h.count (sym i) in
    record {
      back = c.back;
      back_is = c.back_is;
      same = o.same ∙ ap (read_head h.kind) c.whole ∙ head_size h c.line c.back (ap head_line c.text_is ∙ i);
      line =
          o.line
          ∙ ap (stop_head h.kind (2 + length passed)) c.whole
          ∙ stop_size h (2 + length passed) c.line c.back (ap head_line c.text_is ∙ i)
          ∙ ap (λ (n : ℕ). stops h h.count no_rows n c.back) (omega arith);
      gauges = b.gauge_high;
      cases = b.case_high;
    }

-- behind lines without a fault
body_read : (h : Heading) → h.gauges.0 ≤ 64 → h.cases.0 ≤ 64 → (front rest : List Line) (body : List Text) (es : List Named) → map text_of front ≡ body
    → Fine h body es → RanTo h es h.count no_rows no_readings front rest
body_read h m n front rest body es e f =
    subst (λ (x : List Named). RanTo h x h.count no_rows no_readings front rest) (ap (named h) e ∙ lists_named h body es f.lists)
    (run_read h m n [] front rest h.count no_rows no_readings
    (subst (FineRun h []) (sym e) (fine_run h [] body es f.lists f.once f.at_most))
    (state_none h))

-- ---- a legal file is accepted, with what its lines name
pub record Accepted (integers : Bool) (f : List ℕ) (h : Heading) (es : List Named) : Type 0 where
  pub test : Test
  pub is : read_recorded integers f ≡ accepted test
  pub line : stop_line integers f ≡ 0
  pub holds : Holds h es test

pub legal_read : {integers : Bool} {f : List ℕ} {h : Heading} {es : List Named} → LegalFile integers f h es → Accepted integers f h es
legal_read {integers} {f} {h} {es} l =
    let z = sized_read l.sized in
    let w = body_read h z.gauges z.cases z.back [] l.body es z.back_is
    (record { lists = l.lists; once = l.once; at_most = omega (arith, l.all) }) in
    record {
      test = record { kind = h.kind; gauges = h.gauges.0; cases = h.cases.0; entries = w.rows; readings = w.vs };
      is =
          z.same
          ∙ ap (reads h h.count no_rows no_readings) (sym (append_nil z.back))
          ∙ w.same
          ∙ read_done h w.left w.rows w.vs (omega (arith, w.state.to_come, l.all));
      line =
          z.line
          ∙ ap (stops h h.count no_rows _) (sym (append_nil z.back))
          ∙ w.line _
          ∙ stop_done h w.left w.rows _ (omega (arith, w.state.to_come, l.all));
      holds = state_holds w.state;
    }

-- ---- a file with a fault is refused for it, at its line
pub record Stopped (integers : Bool) (f : List ℕ) (k : ℕ) (why : Refusal) : Type 0 where
  pub is : read_recorded integers f ≡ refused_file why
  pub line : stop_line integers f ≡ k

-- an entry that is named is in the rows
is_there : {h : Heading} {es : List Named} {left : ℕ} {rows : List ℕ} {vs : List ℤ} (g : Gauge) (c : Case) (v : ℤ) → State h es left rows vs
    → In64 (naming g c v) → Names es g.0 c.0 → has_pair rows g c ≡ true
is_there {h} {es} {left} {rows} {vs} g c v s b m =
    let x : g.0 ≡ suc (g.0 - 1) = omega (arith, b) in
    let y : c.0 ≡ suc (c.0 - 1) = omega (arith, b) in
    let w : Names es (suc (g.0 - 1)) (suc (c.0 - 1)) =
    subst (λ (a : ℕ). Names es a (suc (c.0 - 1))) x (subst (λ (a : ℕ). Names es g.0 a) y m) in
    is_true (bit (row rows (g.0 - 1)) (c.0 - 1)) ((s.has (g.0 - 1) (c.0 - 1)).1 w)

-- the reader at a line with a fault
entry_stop : {h : Heading} {es : List Named} {left : ℕ} {rows : List ℕ} {vs : List ℤ} → h.gauges.0 ≤ 64 → h.cases.0 ≤ 64 → State h es left rows vs
    → (l : Line) (ls : List Line) (k : ℕ) (why : Refusal) → EntryFault h es l.text why
    → (reads h left rows vs (l ∷ ls) ≡ refused_file why) × (stops h left rows k (l ∷ ls) ≡ k)
entry_stop {h} {es} {left} {rows} {vs} m n s l ls k why (malformed b) =
    let p = (bad_entry_lem h.kind h.gauges h.cases l.text why).1 b in
    (read_bad h left rows vs l ls why p, stop_bad h left rows k l ls why p)
entry_stop {h} {es} {left} {rows} {vs} m n s l ls k why (repeated {g} {c} {v} i q) =
    let x : Gauge = record { 0 = g } in
    let y : Case = record { 0 = c } in
    let p = (entry_words h.kind h.gauges h.cases l.text x y v).1 i in
    let t = is_there x y v s (in_64 h m n l.text x y v p) q in
    (read_repeated h left rows vs l ls x y v p t, stop_repeated h left rows k l ls x y v p t)
entry_stop {h} {es} {left} {rows} {vs} m n s l ls k why (too_many {g} {c} {v} i q e) =
    let x : Gauge = record { 0 = g } in
    let y : Case = record { 0 = c } in
    let p = (entry_words h.kind h.gauges h.cases l.text x y v).1 i in
    let t = is_free {g = x} {c = y} {v = v} s (in_64 h m n l.text x y v p) q in
    let z : left ≡ 0 = omega (arith, s.to_come) in
    (read_many h left rows vs l ls x y v p t z, stop_many h left rows k l ls x y v p t z)

at_entry : {integers : Bool} {f : List ℕ} {h : Heading} {passed : List Text} (body rest : List Text) (t : Text) (es : List Named) (why : Refusal)
    → Sized integers f h passed (body ++ t ∷ rest) → Fine h body es → EntryFault h es t why → Stopped integers f (3 + length passed + length body) why
at_entry {integers} {f} {h} {passed} body rest t es why s a p =
    let z = sized_read s in
    let d = split z.back body (t ∷ rest) z.back_is in
    let c = cons d.back t rest d.back_is in
    let w = body_read h z.gauges z.cases d.front d.back body es d.front_is a in
    let k = texts_length d.front body d.front_is in
    let n = length d.front + (3 + length passed) in
    let q : EntryFault h es c.line.text why = subst (λ (x : Text). EntryFault h es x why) (sym c.text_is) p in
    let x = entry_stop z.gauges z.cases w.state c.line c.back n why q in
    record {
      is =
          z.same
          ∙ ap (reads h h.count no_rows no_readings) d.whole
          ∙ w.same
          ∙ ap (reads h w.left w.rows w.vs) c.whole
          ∙ x.0;
      line =
          z.line
          ∙ ap (stops h h.count no_rows (3 + length passed)) d.whole
          ∙ w.line (3 + length passed)
          ∙ ap (stops h w.left w.rows n) c.whole
          ∙ x.1
          ∙ omega arith;
    }

at_end : {integers : Bool} {f : List ℕ} {h : Heading} {passed body : List Text} (es : List Named) → Sized integers f h passed body → Fine h body es
    → length es < h.count → Stopped integers f (3 + length passed + length body) PairCount
at_end {integers} {f} {h} {passed} {body} es s a l =
    let z = sized_read s in
    let w = body_read h z.gauges z.cases z.back [] body es z.back_is a in
    let n : (w.left ≡ 0 → ⊥) = λ e. omega (arith, w.state.to_come) in
    let k = texts_length z.back body z.back_is in
    record {
      is =
          z.same
          ∙ ap (reads h h.count no_rows no_readings) (sym (append_nil z.back))
          ∙ w.same
          ∙ read_few h w.left w.rows w.vs n;
      line =
          z.line
          ∙ ap (stops h h.count no_rows (3 + length passed)) (sym (append_nil z.back))
          ∙ w.line (3 + length passed)
          ∙ stop_few h w.left w.rows (length z.back + (3 + length passed)) n
          ∙ omega arith;
    }

pub fault_read : {integers : Bool} {f : List ℕ} {k : ℕ} {why : Refusal} → Fault integers f k why → Stopped integers f k why
fault_read {integers} {f} (file_too_long h) = record { is = sym (file_long integers f h); line = stop_long integers f h }
fault_read {integers} {f} (no_line e) =
    let h : length f ≤ 65536 = omega (arith, ap length e) in
    let n = lines_none f e in
    record {
      is = file_lines integers f h ∙ ap (read_lines integers) n ∙ read_none integers;
      line = stop_file integers f h ∙ ap (stop_lines integers) n ∙ stop_none integers;
    }
fault_read {integers} {f} (no_banner {t} {ts} h e p) =
    let c = cons (lines f) t ts (lines_only f (t ∷ ts) e) in
    let q : first_line integers c.line.text ≡ Other = ap (first_line integers) c.text_is ∙ (first_none integers t).1 p in
    record {
      is = file_lines integers f h ∙ ap (read_lines integers) c.whole ∙ first_other integers c.line c.back q;
      line = stop_file integers f h ∙ ap (stop_lines integers) c.whole ∙ stop_other integers c.line c.back q;
    }
fault_read {integers} {f} (bad_head_line {kind} {passed} {rest} {t} {why} o p) =
    let z = opened_read o in
    let c = cons z.back t rest z.back_is in
    let q : head_line c.line.text ≡ bad_head why = ap head_line c.text_is ∙ (bad_head_lem t why).1 p in
    record {
      is = z.same ∙ ap (read_head kind) c.whole ∙ head_bad kind c.line c.back why q;
      line = z.line ∙ ap (stop_head kind (2 + length passed)) c.whole ∙ stop_head_bad kind (2 + length passed) c.line c.back why q;
    }
fault_read {integers} {f} (no_size {kind} {passed} o) =
    let z = opened_read o in
    let n = none z.back z.back_is in
    record {
      is = z.same ∙ ap (read_head kind) n ∙ head_none kind;
      line = z.line ∙ ap (stop_head kind (2 + length passed)) n ∙ stop_head_none kind (2 + length passed);
    }
fault_read {integers} {f} (bad_entry_line {h} {passed} body rest t {es} {why} s a p) = at_entry body rest t es why s a p
fault_read {integers} {f} (too_few {h} {passed} {body} {es} s a l) = at_end es s a l

-- ---- every file is legal or has a fault
every_snoc : {P : Text → Type 0} (ts : List Text) (t : Text) → Every P ts → P t → Every P (ts ++ t ∷ [])
every_snoc [] t all_none p = all_more p all_none
every_snoc (x ∷ ts) t (all_more q a) p = all_more q (every_snoc ts t a p)

module _ (integers : Bool) (f : List ℕ) (short : length f ≤ 65536) (first : Text) (kind : Kind) (banner : first_line integers first ≡ Banner kind) where
  opens : (passed rest : List Text) → Every PassedLine passed → texts f ≡ first ∷ (passed ++ rest) → Opened integers f kind passed rest
  opens passed rest a e =
      record { short = short; first = first; banner = first_only integers kind first banner; passing = a; lines_are = lines_to f (first ∷ (passed ++ rest)) e }

  -- behind the size line
  body_judged : (passed : List Text) (h : Heading) → h.kind ≡ kind → (t : Text) (ts : List Text) → Every PassedLine passed
      → texts f ≡ first ∷ (passed ++ t ∷ ts) → head_line t ≡ Size h.gauges h.cases h.count → Judged integers f
  body_judged passed h d t ts a e p = go (run_or_fault h [] ts (omega arith))
    where
      sized : (body : List Text) → ts ≡ body → Sized integers f h passed body
      sized body q = record {
        size = t;
        opened =
            subst (λ (x : Kind). Opened integers f x passed (t ∷ body)) (sym d)
            (opens passed (t ∷ body) a (e ∙ ap (λ (x : List Text). first ∷ (passed ++ t ∷ x)) q));
        is_size = (size_line t h.gauges h.cases h.count).0 p;
      }

      ran : Fine h ts (named h ts) → Dec (length (named h ts) < h.count) → Judged integers f
      ran r (yes l) = faulty (too_few (sized ts refl) r l)
      ran r (no l) =
          legal (record {
            passed = passed;
            body = ts;
            sized = sized ts refl;
            lists = r.lists;
            once = r.once;
            all = omega (arith, r.at_most);
          })

      go : FineRun h [] ts ⊎ FirstFault h [] ts → Judged integers f
      go (inl r) = ran (run_fine h ts r) (dec_lt (length (named h ts)) h.count)
      go (inr w) =
          faulty
          (bad_entry_line w.before w.behind w.line (sized (w.before ++ w.line ∷ w.behind) w.lines_are) (run_fine h w.before w.run)
          w.fault)

  head_judged : (passed rest : List Text) → Every PassedLine passed → texts f ≡ first ∷ (passed ++ rest) → Judged integers f
  head_judged passed [] a e = faulty (no_size (opens passed [] a e))
  head_judged passed (t ∷ ts) a e = go (head_line t) refl (head_judged (passed ++ t ∷ []) ts)
    where
      go : (x : HeadLine) → head_line t ≡ x → (Every PassedLine (passed ++ t ∷ []) → texts f ≡ first ∷ ((passed ++ t ∷ []) ++ ts) → Judged integers f)
          → Judged integers f
      go skip_head p ih = ih (every_snoc passed t a ((passed_line t).0 p)) (e ∙ ap (λ (x : List Text). first ∷ x) (sym (append_assoc passed (t ∷ []) ts)))
      go (Size g c n) p ih = body_judged passed (record { kind = kind; gauges = g; cases = c; count = n }) refl t ts a e p
      go (bad_head why) p ih = faulty (bad_head_line (opens passed (t ∷ ts) a e) ((bad_head_lem t why).0 p))

-- a file without a line is empty
empty_file : (f : List ℕ) → LinesAre f [] → f ≡ []
empty_file f no_lines = refl

pub judged : (integers : Bool) (f : List ℕ) → Judged integers f
judged integers f = whole (dec_lt 65536 (length f))
  where
    first : length f ≤ 65536 → (t : Text) (ts : List Text) → texts f ≡ t ∷ ts → (x : FirstLine) → first_line integers t ≡ x → Judged integers f
    first h t ts e (Banner kind) p = head_judged integers f h t kind p [] ts all_none e
    first h t ts e Other p = faulty (no_banner h (lines_to f (t ∷ ts) e) ((first_none integers t).0 p))

    go : length f ≤ 65536 → (ts : List Text) → texts f ≡ ts → Judged integers f
    go h [] e = faulty (no_line (empty_file f (lines_to f [] e)))
    go h (t ∷ ts) e = first h t ts e (first_line integers t) refl

    whole : Dec (65536 < length f) → Judged integers f
    whole (yes h) = faulty (file_too_long h)
    whole (no h) = go (omega arith) (texts f) refl

-- ---- accepted exactly when legal, refused exactly for a fault; and the first fault is one
pub record HasFault (integers : Bool) (f : List ℕ) : Type 0 where
  pub line : ℕ
  pub why : Refusal
  pub fault : Fault integers f line why

pub legal_accepted : {integers : Bool} {f : List ℕ} {h : Heading} {es : List Named} → LegalFile integers f h es → (read_recorded integers f).refusal ≡ 0
legal_accepted l = ap (λ (a : Answer Test). a.refusal) (legal_read l).is

fault_refused : {integers : Bool} {f : List ℕ} {k : ℕ} {why : Refusal} → Fault integers f k why → (read_recorded integers f).refusal ≡ number why
fault_refused x = ap (λ (a : Answer Test). a.refusal) (fault_read x).is

pub accepted_legal : (integers : Bool) (f : List ℕ) → (read_recorded integers f).refusal ≡ 0 → IsLegal integers f
accepted_legal integers f e = go (judged integers f)
  where
    go : Judged integers f → IsLegal integers f
    go (legal {h} {es} l) = record { heading = h; entries = es; legal_file = l }
    go (faulty {line = k} {why = why} x) = absurd (omega (arith, fault_refused x, number_pos why))

pub refused_fault : (integers : Bool) (f : List ℕ) → ((read_recorded integers f).refusal ≡ 0 → ⊥) → HasFault integers f
refused_fault integers f n = go (judged integers f)
  where
    go : Judged integers f → HasFault integers f
    go (legal l) = absurd (n (legal_accepted l))
    go (faulty {line = k} {why = why} x) = record { line = k; why = why; fault = x }

-- a legal file has no fault, and no file fails at two lines or for two reasons
pub legal_no_fault : {integers : Bool} {f : List ℕ} {h : Heading} {es : List Named} {k : ℕ} {why : Refusal} → LegalFile integers f h es
    → Fault integers f k why → ⊥
legal_no_fault {why} l x = omega (arith, legal_accepted l, fault_refused x, number_pos why)

pub one_fault : {integers : Bool} {f : List ℕ} {k m : ℕ} {why also : Refusal} → Fault integers f k why → Fault integers f m also
    → (k ≡ m) × (why ≡ also)
one_fault {why} {also} x y =
    (sym (fault_read x).line ∙ (fault_read y).line, number_injective why also (sym (fault_refused x) ∙ fault_refused y))

-- ---- which entries lines name: those of the entry lines among them
-- a line names one entry at most, and a blank line none
one_entry : (h : Heading) (t : Text) (g c a b : ℕ) (v w : ℤ) → IsEntry h t g c v → IsEntry h t a b w → name g c v ≡ name a b w
one_entry h t g c a b v w x y =
    let p = (entry_words h.kind h.gauges h.cases t (record { 0 = g }) (record { 0 = c }) v).1 x in
    let q = (entry_words h.kind h.gauges h.cases t (record { 0 = a }) (record { 0 = b }) w).1 y in
    let e : Entry (record { 0 = g }) (record { 0 = c }) v ≡ Entry (record { 0 = a }) (record { 0 = b }) w = sym p ∙ q in
    let x1 : ◌≡◌ {A = Gauge} (record { 0 = g }) (record { 0 = a }) = cc in
    let y1 : ◌≡◌ {A = Case} (record { 0 = c }) (record { 0 = b }) = cc in
    let z1 : v ≡ w = cc in
    λ i. name (x1 i).0 (y1 i).0 (z1 i)

not_blank : (h : Heading) (t : Text) (g c : ℕ) (v : ℤ) → IsEntry h t g c v → BlankLine t → ⊥
not_blank h t g c v x y =
    let p = (entry_words h.kind h.gauges h.cases t (record { 0 = g }) (record { 0 = c }) v).1 x in
    let q = (blank_line h.kind h.gauges h.cases t).1 y in
    let e : Entry (record { 0 = g }) (record { 0 = c }) v ≡ skip_entry = sym p ∙ q in
    clash cc

-- some line of ts names gauge g and case c, with the reading v
pub record NamedBy (h : Heading) (ts : List Text) (g c : ℕ) (v : ℤ) : Type 0 where
  pub line : Text
  pub among : Memᴰ line ts
  pub names : IsEntry h line g c v

named_there : (h : Heading) (t : Text) (ts : List Text) (g c : ℕ) (v : ℤ) → NamedBy h ts g c v → NamedBy h (t ∷ ts) g c v
named_there h t ts g c v n = record { line = n.line; among = Memᴰ.tail n.among; names = n.names }

pub listed_line : (h : Heading) (ts : List Text) (es : List Named) → Lists h ts es → (g c : ℕ) (v : ℤ) → Memᴰ (name g c v) es → NamedBy h ts g c v
listed_line h [] es lists_none g c v m = absurd (Memᴰ.not-nil m)
listed_line h (t ∷ ts) es (lists_blank b l) g c v m = named_there h t ts g c v (listed_line h ts es l g c v m)
listed_line h (t ∷ ts) es (lists_entry {es = fs} {g = a} {c = b} {v = w} i l) g c v m = go (Memᴰ.cases_cons m) (listed_line h ts fs l g c v)
  where
    go : (name g c v ≡ name a b w) ⊎ Memᴰ (name g c v) fs → (Memᴰ (name g c v) fs → NamedBy h ts g c v) → NamedBy h (t ∷ ts) g c v
    go (inl e) ih =
        record {
          line = t;
          among = Memᴰ.head refl;
          names = subst (λ (x : Named). IsEntry h t x.gauge x.case x.value) (sym e) i;
        }
    go (inr k) ih = named_there h t ts g c v (ih k)

pub line_listed : (h : Heading) (ts : List Text) (es : List Named) → Lists h ts es → (g c : ℕ) (v : ℤ) → NamedBy h ts g c v → Memᴰ (name g c v) es
line_listed h [] es lists_none g c v n = absurd (Memᴰ.not-nil n.among)
line_listed h (t ∷ ts) es (lists_blank b l) g c v n = go (Memᴰ.cases_cons n.among) (line_listed h ts es l g c v)
  where
    go : (n.line ≡ t) ⊎ Memᴰ n.line ts → (NamedBy h ts g c v → Memᴰ (name g c v) es) → Memᴰ (name g c v) es
    go (inl e) ih = absurd (not_blank h t g c v (subst (λ (x : Text). IsEntry h x g c v) e n.names) b)
    go (inr k) ih = ih (record { line = n.line; among = k; names = n.names })
line_listed h (t ∷ ts) es (lists_entry {es = fs} {g = a} {c = b} {v = w} i l) g c v n = go (Memᴰ.cases_cons n.among) (line_listed h ts fs l g c v)
  where
    go : (n.line ≡ t) ⊎ Memᴰ n.line ts → (NamedBy h ts g c v → Memᴰ (name g c v) fs) → Memᴰ (name g c v) (name a b w ∷ fs)
    go (inl e) ih = Memᴰ.head (one_entry h t g c a b v w (subst (λ (x : Text). IsEntry h x g c v) e n.names) i)
    go (inr k) ih = Memᴰ.tail (ih (record { line = n.line; among = k; names = n.names }))
