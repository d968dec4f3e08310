-- What a file is, looked at as a list of lines (01, "The file" and "Refused, by the place of the check"; 02, R-1 and
-- R-5): what its entry lines name, when it is legal, what a test holds that is read from it, and where and with what
-- it fails first. Nothing here reads on from line to line with something gathered: every statement is about the lines
-- themselves and those before them.
--
-- In order: what lines name; the parts of a file; the legal file (`LegalFile`), and what is held of it (`Holds`); the
-- first failing line and its refusal (`Fault`); one of the two for every file (`Judged`). `integers` says whether the
-- reader takes integer files: the one with a cutoff does, 01's does not.
--
-- Elsewhere: the lines of a file, file_text/specs/Texts; the banner and what one line says, file_kinds/specs/Banner
-- and OneLine; what the readers promise by this, Promises.antt. That every file is legal or fails, never both nor
-- twice, is `judged`, `legal_no_fault`, `one_legal` and `one_fault` in proofs/FileLaws.antt.
use Rattle.std.specs.Prelude.{ℕ, ◌+◌, ◌≤◌, ◌<◌, ◌≡◌, ◌↔◌, Bool, length, ℤ}
use mathlib.Core.List.{List, [], ◌∷◌, ◌++◌, Memᴰ}
use Rattle.table.specs.Pairs.{Has}
use Rattle.table.specs.declared.Gauge.{Gauge}
use Rattle.table.specs.declared.Case.{Case}
use Rattle.recorded.specs.Tests.{reading_of}
use Rattle.recorded.specs.declared.Kind.{Kind}
use Rattle.recorded.specs.declared.Test.{Test}
use Rattle.refusals.specs.declared.Refusal.{Refusal}
use Rattle.refusals.specs.declared.Refusal.TheVariants.{FileTooLong, NotTheBanner, SizeFields, PairRepeated, PairCount}
use Rattle.file_text.specs.Texts.{Text, LinesAre}
use Rattle.file_kinds.specs.Banner.{IsBanner}
use Rattle.file_kinds.specs.OneLine.{PassedLine, SizeLine, BlankLine, EntryIs, BadHead, BadEntry}

-- ---- what lines name
-- what the banner and the size line say: the kind of file, G, L and N
pub record Heading : Type 0 where
  pub kind : Kind
  pub gauges : Gauge
  pub cases : Case
  pub count : ℕ

-- what an entry line names: a gauge, a case, and a reading, which is 0 in a file of pairs
pub record Named : Type 0 where
  pub gauge : ℕ
  pub case : ℕ
  pub value : ℤ

abbrev pub name : ℕ → ℕ → ℤ → Named
name g c v = record { gauge = g; case = c; value = v }

-- a line behind the size line that names an entry
abbrev pub IsEntry : Heading → Text → ℕ → ℕ → ℤ → Type 0
IsEntry h t g c v = EntryIs h.kind h.gauges.0 h.cases.0 t g c v

-- the lines behind the size line name the entries es, in their order, one for each line that is not blank
pub data Lists (h : Heading) : List Text → List Named → Type 0 where
  lists_none : Lists h [] []
  lists_blank : {t : Text} {ts : List Text} {es : List Named} → BlankLine t → Lists h ts es → Lists h (t ∷ ts) es
  lists_entry : {t : Text} {ts : List Text} {es : List Named} {g c : ℕ} {v : ℤ} → IsEntry h t g c v → Lists h ts es → Lists h (t ∷ ts) (name g c v ∷ es)

-- among the entries is one of gauge g and case c
abbrev pub Names : List Named → ℕ → ℕ → Type 0
Names es g c = (v : ℤ) × Memᴰ (name g c v) es

-- no two of them are of one gauge and one case
pub data Distinct : List Named → Type 0 where
  once_none : Distinct []
  once_more : {e : Named} {es : List Named} → ¬ Names es e.gauge e.case → Distinct es → Distinct (e ∷ es)

-- ---- the parts of a file
-- each of the lines is such
pub data Every (P : Text → Type 0) : List Text → Type 0 where
  all_none : Every P []
  all_more : {t : Text} {ts : List Text} → P t → Every P ts → Every P (t ∷ ts)

-- "a file at most 65,536": its first line is the banner of a kind, then come the lines `passed`, comments and blank
-- ones, and then the lines `rest`
pub record Opened (integers : Bool) (f : List ℕ) (kind : Kind) (passed rest : List Text) : Type 0 where
  pub short : length f ≤ 65536
  pub first : Text
  pub banner : IsBanner integers kind first
  pub passing : Every PassedLine passed
  pub lines_are : LinesAre f (first ∷ (passed ++ rest))

-- and the first of those is the size line; `body` is what comes after it
pub record Sized (integers : Bool) (f : List ℕ) (h : Heading) (passed body : List Text) : Type 0 where
  pub size : Text
  pub opened : Opened integers f h.kind passed (size ∷ body)
  pub is_size : SizeLine size h.gauges.0 h.cases.0 h.count

-- lines behind the size line without a fault: they name the entries es, none of them twice, and not more than N
pub record Fine (h : Heading) (body : List Text) (es : List Named) : Type 0 where
  pub lists : Lists h body es
  pub once : Distinct es
  pub at_most : length es ≤ h.count

-- ---- the legal file
-- banner, "then comment lines .., then the size line `G L N`, then N lines", that name the entries es, none of them
-- twice; "Blank lines may stand anywhere after the first line"
pub record LegalFile (integers : Bool) (f : List ℕ) (h : Heading) (es : List Named) : Type 0 where
  pub passed : List Text
  pub body : List Text
  pub sized : Sized integers f h passed body
  pub lists : Lists h body es
  pub once : Distinct es
  pub all : length es ≡ h.count

pub record IsLegal (integers : Bool) (f : List ℕ) : Type 0 where
  pub heading : Heading
  pub entries : List Named
  pub legal_file : LegalFile integers f heading entries

-- what a test holds that is read from a file with this heading and these entries: its kind, its G and L, an entry
-- exactly where a line names one, and there the reading that the line has
pub record Holds (h : Heading) (es : List Named) (t : Test) : Type 0 where
  pub kind_is : t.kind ≡ h.kind
  pub gauges_are : t.gauges ≡ h.gauges.0
  pub cases_are : t.cases ≡ h.cases.0
  pub entries_are : (g c : ℕ) → Has t.entries g c ↔ Names es g c
  pub readings_are : (e : Named) → Memᴰ e es → reading_of t e.gauge e.case ≡ e.value

-- ---- where a file fails first
-- what is wrong with a line behind the size line and behind lines that name the entries es: 3, 6, 7 and 20 by itself,
-- "then 8 pair repeated; then 9 more than N pairs"
pub data EntryFault (h : Heading) (es : List Named) (t : Text) : Refusal → Type 0 where
  malformed : {why : Refusal} → BadEntry h.kind h.gauges.0 h.cases.0 t why → EntryFault h es t why
  repeated : {g c : ℕ} {v : ℤ} → IsEntry h t g c v → Names es g c → EntryFault h es t PairRepeated
  too_many : {g c : ℕ} {v : ℤ} → IsEntry h t g c v → ¬ Names es g c → length es ≡ h.count → EntryFault h es t PairCount

-- 01's table of the refusals of a file, row by row: the number of the first failing line, from 1, and its refusal.
-- Every line before it is without a fault. The number is 0 where the file fails as a whole, and one past the last
-- line's where the end of the file fails.
pub data Fault (integers : Bool) (f : List ℕ) : ℕ → Refusal → Type 0 where
  -- "File as a whole: 1 longer than 65,536"
  file_too_long : 65536 < length f → Fault integers f 0 FileTooLong
  -- "First line: 2 not the banner (an empty file too)"
  no_line : f ≡ [] → Fault integers f 1 NotTheBanner
  no_banner : {t : Text} {ts : List Text} → length f ≤ 65536 → LinesAre f (t ∷ ts) → ((kind : Kind) → ¬ IsBanner integers kind t)
      → Fault integers f 1 NotTheBanner
  -- "Each later line: 3", and "Size line: 4 absent or not three fields; then 5"
  bad_head_line : {kind : Kind} {passed rest : List Text} {t : Text} {why : Refusal} → Opened integers f kind passed (t ∷ rest) → BadHead t why
      → Fault integers f (2 + length passed) why
  no_size : {kind : Kind} {passed : List Text} → Opened integers f kind passed [] → Fault integers f (2 + length passed) SizeFields
  -- "Each later line: 3", and "Pair line: 6 .. 7 .. 8 .. 9 more than N pairs", 20 between 7 and 8
  bad_entry_line : {h : Heading} {passed : List Text} (body rest : List Text) (t : Text) {es : List Named} {why : Refusal}
      → Sized integers f h passed (body ++ t ∷ rest) → Fine h body es → EntryFault h es t why → Fault integers f (3 + length passed + length body) why
  -- "End of file: 9 fewer than N pairs"
  too_few : {h : Heading} {passed body : List Text} {es : List Named} → Sized integers f h passed body → Fine h body es → length es < h.count
      → Fault integers f (3 + length passed + length body) PairCount

-- ---- every file is one or the other
pub data Judged (integers : Bool) (f : List ℕ) : Type 0 where
  legal : {h : Heading} {es : List Named} → LegalFile integers f h es → Judged integers f
  faulty : {line : ℕ} {why : Refusal} → Fault integers f line why → Judged integers f
