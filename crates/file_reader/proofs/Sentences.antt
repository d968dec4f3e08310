-- The promises of specs/Promises.antt, field by field, in 01's words: what a caller knows of an answer a. In order:
-- 01's reader, the reader with a cutoff, the line that decides, comment lookup.
use Prim.Native.Nat.{ℕ, ◌-◌, ◌≤◌}
use mathlib.Core.Path.{◌≡◌, ap, subst, ◌∙◌}
use mathlib.Core.Logic.{◌⊎◌, inl, inr}
use mathlib.Core.List.{List, []}
use mathlib.Core.Bool.{Bool, true, false}
use lib.IntN.{ℤ, nat_abs}
use lib.ListN.{length, get_or, take, drop}
use denote.Ref.{Bor}
use Rattle.table.specs.Pairs.{Has}
use Rattle.table.specs.Tables.{Legal, blank_table}
use Rattle.table.specs.declared.Table.{Table}
use Rattle.recorded.specs.Tests.{LegalTest, reading_of}
use Rattle.recorded.specs.declared.Kind.TheVariants.{Integer}
use Rattle.refusals.specs.Answers.{Answer, number}
use Rattle.refusals.specs.declared.Refusal.{Refusal}
use Rattle.file_text.specs.Lines.{lines}
use Rattle.file_kinds.specs.OneLine.{UpTo}
use Rattle.file_reader.specs.Comments.{Part, Shows, no_part, comment_lines}
use Rattle.file_reader.specs.Files.{Heading, Named, name, LegalFile, IsLegal, Fault, Judged, legal, faulty}
use Rattle.file_reader.specs.Promises.{TableOfFile, TestAndTable, blank_both, IsCutoff, TestOfFile, LineOfFile, comments_in, CommentOfFile, ShownComment}
use Rattle.file_reader.proofs.FileLaws.{HasFault, NamedBy, listed_line, line_listed}
use Rattle.file_reader.proofs.Lookup.{shows_unique}
use Rattle.file_reader.proofs.Promising.{comment_of_file_unique}

-- a legal file has as many entry lines as its size line says
pub legal_count : {integers : Bool} {f : List ℕ} {h : Heading} {es : List Named} → LegalFile integers f h es → length es ≡ h.count
legal_count l = l.all

legal_is : {integers : Bool} {f : List ℕ} {h : Heading} {es : List Named} → LegalFile integers f h es → IsLegal integers f
legal_is {h = h} {es = es} l = record { heading = h; entries = es; legal_file = l }

-- ---- 01's reader
module _ {f : List ℕ} {a : Answer Table} (x : TableOfFile f a) where
  -- a legal file is accepted, and an accepted one is legal
  pub table_legal_accepted : {h : Heading} {es : List Named} → LegalFile false f h es → a.refusal ≡ 0
  table_legal_accepted l = x.accepted.1 (legal_is l)

  pub table_accepted_legal : a.refusal ≡ 0 → IsLegal false f
  table_accepted_legal z = x.accepted.0 z

  -- what is given is a table, of the size line's G and L
  pub table_given : a.refusal ≡ 0 → Legal a.value
  table_given z = x.table z

  pub table_size : {h : Heading} {es : List Named} → LegalFile false f h es → (a.value.gauges ≡ h.gauges.0) × (a.value.cases ≡ h.cases.0)
  table_size {h} {es} l = x.shape h es l

  -- a pair is named by an entry line, and what an entry line names is a pair
  pub table_pair_line : {h : Heading} {es : List Named} (l : LegalFile false f h es) (g c : ℕ) → Has a.value.rows g c → (v : ℤ) × NamedBy h l.body g c v
  table_pair_line {h} {es} l g c p =
      let (v, m) = (x.pairs h es l g c).0 p in
      (v, listed_line h l.body es l.lists g c v m)

  pub table_line_pair : {h : Heading} {es : List Named} (l : LegalFile false f h es) (g c : ℕ) (v : ℤ) → NamedBy h l.body g c v → Has a.value.rows g c
  table_line_pair {h} {es} l g c v n = (x.pairs h es l g c).1 (v, line_listed h l.body es l.lists g c v n)

  -- the first failing line decides, and its number is all that there is
  pub table_fault : {line : ℕ} {why : Refusal} → Fault false f line why → (a.refusal ≡ number why) × (a.value ≡ blank_table)
  table_fault {line} {why} z =
      let e = x.refusing line why z in
      (ap (λ (y : Answer Table). y.refusal) e, ap (λ (y : Answer Table). y.value) e)

  -- a file that is not accepted has a first failing line
  pub table_other : ¬ (a.refusal ≡ 0) → HasFault false f
  table_other n = go x.every
    where
      go : Judged false f → HasFault false f
      go (legal l) = absurd (n (table_legal_accepted l))
      go (faulty {line = k} {why = why} z) = record { line = k; why = why; fault = z }

-- ---- the reader with a cutoff
module _ {f : List ℕ} {cutoff : ℕ} {a : Answer TestAndTable} (x : TestOfFile f cutoff a) where
  -- 21 comes before all else
  pub test_cutoff : ¬ IsCutoff cutoff → (a.refusal ≡ 21) × (a.value ≡ blank_both)
  test_cutoff n =
      let e = x.cutoff_refused n in
      (ap (λ (y : Answer TestAndTable). y.refusal) e, ap (λ (y : Answer TestAndTable). y.value) e)

  pub both_given : a.refusal ≡ 0 → LegalTest a.value.test × Legal a.value.table
  both_given z = (x.test_legal z, x.table z)

  module _ (k : IsCutoff cutoff) where
    pub test-legal-accepted : {h : Heading} {es : List Named} → LegalFile true f h es → a.refusal ≡ 0
    test-legal-accepted l = (x.accepted k).1 (legal_is l)

    pub test-accepted-legal : a.refusal ≡ 0 → IsLegal true f
    test-accepted-legal z = (x.accepted k).0 z

    -- kind and shape are the banner's and the size line's
    pub test-kind : {h : Heading} {es : List Named} → LegalFile true f h es → a.value.test.kind ≡ h.kind
    test-kind {h} {es} l = (x.test k h es l).kind_is

    pub test-size : {h : Heading} {es : List Named} → LegalFile true f h es → (a.value.test.gauges ≡ h.gauges.0) × (a.value.test.cases ≡ h.cases.0)
    test-size {h} {es} l = ((x.test k h es l).gauges_are, (x.test k h es l).cases_are)

    -- an entry is named by an entry line, and an entry line's entry is there with the line's reading
    pub test-entry-line : {h : Heading} {es : List Named} (l : LegalFile true f h es) (g c : ℕ) → Has a.value.test.entries g c
        → (v : ℤ) × NamedBy h l.body g c v
    test-entry-line {h} {es} l g c p =
        let (v, m) = ((x.test k h es l).entries_are g c).0 p in
        (v, listed_line h l.body es l.lists g c v m)

    pub test-line-entry : {h : Heading} {es : List Named} (l : LegalFile true f h es) (g c : ℕ) (v : ℤ) → NamedBy h l.body g c v
        → Has a.value.test.entries g c × (reading_of a.value.test g c ≡ v)
    test-line-entry {h} {es} l g c v n =
        let m = line_listed h l.body es l.lists g c v n in
        (((x.test k h es l).entries_are g c).1 (v, m), (x.test k h es l).readings_are (name g c v) m)

    -- the table beside it: its shape, and a pair exactly where the magnitude of a line's reading reaches the cutoff
    pub test-table-size : {h : Heading} {es : List Named} → LegalFile true f h es
        → (a.value.table.gauges ≡ h.gauges.0) × (a.value.table.cases ≡ h.cases.0)
    test-table-size {h} {es} l = x.shape k h es l

    pub test-pair-line : {h : Heading} {es : List Named} (l : LegalFile true f h es) (g c : ℕ) → Has a.value.table.rows g c
        → (v : ℤ) × NamedBy h l.body g c v × (h.kind ≡ Integer → cutoff ≤ nat_abs v)
    test-pair-line {h} {es} l g c p =
        let (v, m, r) = (x.pairs k h es l g c).0 p in
        (v, listed_line h l.body es l.lists g c v m, r)

    pub test-line-pair : {h : Heading} {es : List Named} (l : LegalFile true f h es) (g c : ℕ) (v : ℤ) → NamedBy h l.body g c v
        → (h.kind ≡ Integer → cutoff ≤ nat_abs v) → Has a.value.table.rows g c
    test-line-pair {h} {es} l g c v n r = (x.pairs k h es l g c).1 (v, line_listed h l.body es l.lists g c v n, r)

    pub test-fault : {line : ℕ} {why : Refusal} → Fault true f line why → (a.refusal ≡ number why) × (a.value ≡ blank_both)
    test-fault {line} {why} z =
        let e = x.refusing k line why z in
        (ap (λ (y : Answer TestAndTable). y.refusal) e, ap (λ (y : Answer TestAndTable). y.value) e)

    pub test-other : ¬ (a.refusal ≡ 0) → HasFault true f
    test-other n = go x.every
      where
        go : Judged true f → HasFault true f
        go (legal l) = absurd (n (test-legal-accepted l))
        go (faulty {line = line} {why = why} z) = record { line = line; why = why; fault = z }

-- ---- the line that decides
module _ {integers : Bool} {f : List ℕ} {n : ℕ} (x : LineOfFile integers f n) where
  -- 0 for a legal file
  pub line_none : {h : Heading} {es : List Named} → LegalFile integers f h es → n ≡ 0
  line_none l = x.none (legal_is l)

  -- the number of the first failing line
  pub line_first : {line : ℕ} {why : Refusal} → Fault integers f line why → n ≡ line
  line_first {line} {why} z = x.first line why z

  -- any other number is that of a line that fails
  pub line_fault : ¬ (n ≡ 0) → (why : Refusal) × Fault integers f n why
  line_fault p = go x.every
    where
      go : Judged integers f → (why : Refusal) × Fault integers f n why
      go (legal l) = absurd (p (line_none l))
      go (faulty {line = line} {why = why} z) = (why, at line why z (line_first z))
        where
          at : (line : ℕ) (why : Refusal) → Fault integers f line why → n ≡ line → Fault integers f n why
          at line why z e = rw e z

-- ---- comment lookup
module _ {f : List ℕ} {k : ℕ} {a : Answer Part} (x : CommentOfFile f k a) where
  -- no refusal, and the k-th comment line's bytes
  pub comment_bytes : {h : Heading} {es : List Named} (l : LegalFile true f h es) → UpTo (length (comments_in l.passed)) k
      → (a.refusal ≡ 0) × (take a.value.len (drop a.value.start f) ≡ get_or (comments_in l.passed) (k - 1) [])
  comment_bytes {h} {es} l u = (x.shown h es l).shown u

  -- 17 for any other k
  pub comment_none : {h : Heading} {es : List Named} (l : LegalFile true f h es) → ¬ UpTo (length (comments_in l.passed)) k → a.refusal ≡ 17
  comment_none {h} {es} l n = ap (λ (y : Answer Part). y.refusal) ((x.shown h es l).none n)

  -- where it is
  pub comment_place : {h : Heading} {es : List Named} → LegalFile true f h es → a ≡ comment_lines k (lines f)
  comment_place l = x.placed (legal_is l)

  -- "any other file gets the reader's refusal"
  pub comment_fault : {line : ℕ} {why : Refusal} → Fault true f line why → (a.refusal ≡ number why) × (a.value ≡ no_part)
  comment_fault {line} {why} z =
      let e = x.refusing line why z in
      (ap (λ (y : Answer Part). y.refusal) e, ap (λ (y : Answer Part). y.value) e)

  pub comment_other : IsLegal true f ⊎ HasFault true f
  comment_other = go x.every
    where
      go : Judged true f → IsLegal true f ⊎ HasFault true f
      go (legal l) = inl (legal_is l)
      go (faulty {line = line} {why = why} z) = inr (record { line = line; why = why; fault = z })

-- what is shown is the k-th comment line, in the caller's memory; there is one such part
module _ {file r : Bor (List ℕ)} {k : ℕ} (x : ShownComment file k r) where
  pub shown_line : {h : Heading} {es : List Named} (l : LegalFile true file.now h es) → UpTo (length (comments_in l.passed)) k
      → (r.ref_ptr.0 ≡ file.ref_ptr.0) × (r.now ≡ get_or (comments_in l.passed) (k - 1) [])
  shown_line l u = (x.shows.block, x.shows.bytes ∙ (comment_bytes x.finds l u).1)

pub shown_unique : (file r q : Bor (List ℕ)) (k : ℕ) → ShownComment file k r → ShownComment file k q
    → (r.ref_ptr.0 ≡ q.ref_ptr.0) × (r.ref_ptr.1 ≡ q.ref_ptr.1) × (r.now ≡ q.now)
shown_unique file r q k x y =
    let e = comment_of_file_unique file.now k x.answer y.answer x.finds y.finds in
    shows_unique file r q y.answer.value (subst (λ (a : Answer Part). Shows file r a.value) e x.shows) y.shows
