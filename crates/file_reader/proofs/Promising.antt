-- What the readers promise (specs/Promises.antt) is met by what is read (specs/private/Reading.antt), for every file, and by nothing else. In order: 01's
-- reader (`table_of_file`, `table_of_file_unique`, so `table_is_read`), the reader with a cutoff (`test_of_file`, `test_of_file_unique`, `test_is_read`),
-- the line that decides (`line_of_file`, `line_of_file_unique`), comment lookup (`comment_of_file`, `comment_of_file_unique`, `comment_is_found`).
--
-- Elsewhere: what each field says, read out in 01's words, Sentences.antt.
use Prim.Native.Nat.{ℕ, ◌≤◌}
use mathlib.Core.Path.{◌≡◌, refl, sym, ap, subst, ◌∙◌}
use mathlib.Core.Logic.{◌↔◌}
use mathlib.Core.List.{List}
use mathlib.Core.Bool.{Bool, true, false}
use native.Mathlib.Omega.{arith}
use lib.IntN.{ℤ, nat_abs}
use borrow.Author.Tests.{eq-eqb, ne_eqb}
use Rattle.basics.proofs.Clash.{clash}
use Rattle.table.specs.Pairs.{Has}
use Rattle.table.specs.Tables.{Legal, in_range}
use Rattle.table.specs.declared.Table.{Table}
use Rattle.table.proofs.Legality.{range_is, in_range_lem}
use Rattle.table.proofs.Places.{same_pairs_rows}
use Rattle.recorded.specs.Tests.{LegalTest, table_of}
use Rattle.recorded.specs.declared.Test.{Test}
use Rattle.recorded.proofs.Reaching.{table_pairs}
use Rattle.recorded.proofs.Equal.{equal-same}
use Rattle.refusals.specs.Answers.{Answer, number}
use Rattle.refusals.specs.declared.Refusal.{Refusal}
use Rattle.refusals.specs.declared.Refusal.TheVariants.{CutoffRange}
use Rattle.refusals.proofs.Answering.{number_pos}
use Rattle.file_text.specs.Lines.{lines}
use Rattle.file_reader.specs.Comments.{Part, no_part, comment_lines}
use Rattle.file_reader.specs.Files.{Heading, Named, name, Names, LegalFile, IsLegal, Holds, Judged, legal, faulty}
use Rattle.file_reader.specs.Promises.{
  TableOfFile,
  TestAndTable,
  refused_both,
  IsCutoff,
  NamesPair,
  TestOfFile,
  LineOfFile,
  comments_in,
  ShowsLine,
  CommentOfFile,
}
use Rattle.file_reader.specs.private.Reading.{accepted, refused_file, read_recorded, pairs_of, read_file, read_test, comment_at}
use Rattle.file_reader.specs.private.Stopping.{stop_line}
use Rattle.file_reader.proofs.Yielded.{recorded_sound, read_legal}
use Rattle.file_reader.proofs.Answered.{read_test_legal}
use Rattle.file_reader.proofs.FileLaws.{Accepted, legal_read, fault_read, judged, legal_accepted, accepted_legal}
use Rattle.file_reader.proofs.CommentLaws.{comment_shown}

-- ---- 01's reader
module _ (f : List ℕ) (a : Answer Table) (e : a ≡ read_file f) where
  refusal_is : a.refusal ≡ (read_recorded false f).refusal
  unfolding read_file
  refusal_is = ap (λ (x : Answer Table). x.refusal) e

  module _ (h : Heading) (es : List Named) (l : LegalFile false f h es) where
    abbrev found : Accepted false f h es
    found = legal_read l

    value-is : a.value ≡ record { gauges = found.test.gauges; cases = found.test.cases; rows = found.test.entries }
    unfolding read_file
    value-is = ap (λ (x : Answer Table). x.value) (e ∙ ap pairs_of found.is)

    has-shape : (a.value.gauges ≡ h.gauges.0) × (a.value.cases ≡ h.cases.0)
    has-shape = (
      ap (λ (t : Table). t.gauges) value-is ∙ found.holds.gauges_are,
      ap (λ (t : Table). t.cases) value-is ∙ found.holds.cases_are,
    )

    has-pairs : (g c : ℕ) → Has a.value.rows g c ↔ Names es g c
    has-pairs g c = subst (λ (t : Table). Has t.rows g c ↔ Names es g c) (sym value-is) (found.holds.entries_are g c)

  pub table_of_file : TableOfFile f a
  unfolding read_file
  table_of_file = record {
    accepted = (λ z. accepted_legal false f (sym refusal_is ∙ z), λ l. refusal_is ∙ legal_accepted l.legal_file);
    shape = has-shape;
    pairs = has-pairs;
    table = λ z. subst (λ (x : Answer Table). Legal x.value) (sym e) (read_legal f (sym refusal_is ∙ z));
    refusing = λ line why x. e ∙ ap pairs_of (fault_read x).is;
    every = judged false f;
  }

-- two tables of one shape with the same pairs are the same
same_tables : (t u : Table) → Legal t → Legal u → t.gauges ≡ u.gauges → t.cases ≡ u.cases → ((g c : ℕ) → Has t.rows g c ↔ Has u.rows g c) → t ≡ u
same_tables t u lt lu p q r =
    let s = same_pairs_rows t.rows u.rows (lt.rows_length ∙ sym lu.rows_length) r in
    λ i. record { gauges = p i; cases = q i; rows = s i }

-- what holds exactly where one thing holds
either : {A B C : Type 0} → A ↔ C → B ↔ C → A ↔ B
either x y = (λ a. y.1 (x.0 a), λ b. x.1 (y.0 b))

pub table_of_file_unique : (f : List ℕ) (a b : Answer Table) → TableOfFile f a → TableOfFile f b → a ≡ b
table_of_file_unique f a b x y = go x.every
  where
    go : Judged false f → a ≡ b
    go (faulty {line = k} {why = why} z) = x.refusing k why z ∙ sym (y.refusing k why z)
    go (legal {h} {es} l) =
        let w : IsLegal false f = record { heading = h; entries = es; legal_file = l } in
        let p = x.accepted.1 w in
        let q = y.accepted.1 w in
        let (g, c) = x.shape h es l in
        let (k, d) = y.shape h es l in
        let r : a.refusal ≡ b.refusal = p ∙ sym q in
        let t : a.value ≡ b.value =
        same_tables a.value b.value (x.table p) (y.table q) (g ∙ sym k) (c ∙ sym d) (λ m n. either (x.pairs h es l m n) (y.pairs h es l m n)) in
        λ i. record { refusal = r i; value = t i }

pub table_is_read : (f : List ℕ) (a : Answer Table) → TableOfFile f a → a ≡ read_file f
table_is_read f a x = table_of_file_unique f a (read_file f) x (table_of_file f (read_file f) refl)

-- ---- the reader with a cutoff
out_of_range : (f : List ℕ) (cutoff : ℕ) → ¬ IsCutoff cutoff → read_test f cutoff ≡ refused_both CutoffRange
unfolding read_test
out_of_range f cutoff n = go (in_range 1000000 cutoff) refl
  where
    go : (t : Bool) → in_range 1000000 cutoff ≡ t → read_test f cutoff ≡ refused_both CutoffRange
    go true e = absurd (n (range_is 1000000 cutoff e))
    go false e = rw (e, read_test)

module _ (f : List ℕ) (cutoff : ℕ) (c : IsCutoff cutoff) where
  test_given : (t : Test) → read_recorded true f ≡ accepted t → read_test f cutoff ≡ record { refusal = 0; value = record { test = t; table = table_of t cutoff } }
  unfolding read_test
  test_given t e = rw (in_range_lem 1000000 cutoff c.0 c.1, e)

  test_refused : (why : Refusal) → read_recorded true f ≡ refused_file why → read_test f cutoff ≡ refused_both why
  unfolding read_test
  test_refused why e = rw (in_range_lem 1000000 cutoff c.0 c.1, e) (rw (ne_eqb (number why) 0 (λ z. omega (arith, number_pos why))))

  same_refusal : (read_test f cutoff).refusal ≡ (read_recorded true f).refusal
  unfolding read_test
  same_refusal = rw (in_range_lem 1000000 cutoff c.0 c.1)

-- the pairs of the table at a cutoff, by the entries that a legal test holds
module _ (h : Heading) (es : List Named) (cutoff : ℕ) (t : Test) (ok : LegalTest t) (holds : Holds h es t) where
  pairs_to_lem : (g c : ℕ) → Has (table_of t cutoff).rows g c → NamesPair h es cutoff g c
  pairs_to_lem g c p =
      let (q, r) = (table_pairs t ok cutoff g c).0 p in
      let (v, m) = (holds.entries_are g c).0 q in
      (v, m, λ k. subst (λ (x : ℤ). cutoff ≤ nat_abs x) (holds.readings_are (name g c v) m) (r (holds.kind_is ∙ k)))

  pairs_from_lem : (g c : ℕ) → NamesPair h es cutoff g c → Has (table_of t cutoff).rows g c
  pairs_from_lem g c (v, m, r) =
      (table_pairs t ok cutoff g c).1 (
        (holds.entries_are g c).1 (v, m),
        λ k. subst (λ (x : ℤ). cutoff ≤ nat_abs x) (sym (holds.readings_are (name g c v) m)) (r (sym holds.kind_is ∙ k)),
      )

module _ (f : List ℕ) (cutoff : ℕ) (a : Answer TestAndTable) (e : a ≡ read_test f cutoff) where
  module _ (k : IsCutoff cutoff) where
    number_is : a.refusal ≡ (read_recorded true f).refusal
    number_is = ap (λ (x : Answer TestAndTable). x.refusal) e ∙ same_refusal f cutoff k

    module _ (h : Heading) (es : List Named) (l : LegalFile true f h es) where
      abbrev read : Accepted true f h es
      read = legal_read l

      answer-is : a ≡ record { refusal = 0; value = record { test = read.test; table = table_of read.test cutoff } }
      answer-is = e ∙ test_given f cutoff k read.test read.is

      test-is : a.value.test ≡ read.test
      test-is = ap (λ (x : Answer TestAndTable). x.value.test) answer-is

      table_is : a.value.table ≡ table_of read.test cutoff
      table_is = ap (λ (x : Answer TestAndTable). x.value.table) answer-is

      sound : LegalTest read.test
      sound = subst LegalTest (ap (λ (x : Answer Test). x.value) read.is) ((recorded_sound true f).given (legal_accepted l)).0

      table-shape : (a.value.table.gauges ≡ h.gauges.0) × (a.value.table.cases ≡ h.cases.0)
      table-shape = (
        ap (λ (t : Table). t.gauges) table_is ∙ read.holds.gauges_are,
        ap (λ (t : Table). t.cases) table_is ∙ read.holds.cases_are,
      )

      table-has : (g c : ℕ) → Has a.value.table.rows g c ↔ NamesPair h es cutoff g c
      table-has g c =
          subst (λ (t : Table). Has t.rows g c ↔ NamesPair h es cutoff g c) (sym table_is)
          (pairs_to_lem h es cutoff read.test sound read.holds g c, pairs_from_lem h es cutoff read.test sound read.holds g c)

  both_legal : a.refusal ≡ 0 → LegalTest a.value.test × Legal a.value.table
  both_legal z =
      subst (λ (x : Answer TestAndTable). LegalTest x.value.test × Legal x.value.table) (sym e)
      (read_test_legal f cutoff (ap (λ (x : Answer TestAndTable). x.refusal) (sym e) ∙ z))

  pub test_of_file : TestOfFile f cutoff a
  test_of_file = record {
    cutoff_refused = λ n. e ∙ out_of_range f cutoff n;
    accepted = λ k. (λ z. accepted_legal true f (sym (number_is k) ∙ z), λ l. number_is k ∙ legal_accepted l.legal_file);
    test = λ k h es l. subst (Holds h es) (sym (test-is k h es l)) (read k h es l).holds;
    test_legal = λ z. (both_legal z).0;
    shape = table-shape;
    pairs = table-has;
    table = λ z. (both_legal z).1;
    refusing = λ k line why x. e ∙ test_refused f cutoff k why (fault_read x).is;
    every = judged true f;
  }

-- whether a number is a cutoff
cutoff_dec : (cutoff : ℕ) → Dec (IsCutoff cutoff)
cutoff_dec cutoff = go (in_range 1000000 cutoff) refl
  where
    go : (t : Bool) → in_range 1000000 cutoff ≡ t → Dec (IsCutoff cutoff)
    go true e = yes (range_is 1000000 cutoff e)
    go false e = no (λ k. let z : false ≡ true = sym e ∙ in_range_lem 1000000 cutoff k.0 k.1 in clash cc)

-- two legal tests that hold the same are the same
same_tests : (h : Heading) (es : List Named) (t u : Test) → LegalTest t → LegalTest u → Holds h es t → Holds h es u → t ≡ u
same_tests h es t u lt lu x y =
    equal-same t u lt lu
    (record {
      kind = x.kind_is ∙ sym y.kind_is;
      gauges = x.gauges_are ∙ sym y.gauges_are;
      cases = x.cases_are ∙ sym y.cases_are;
      entries = λ g c. either (x.entries_are g c) (y.entries_are g c);
      readings = λ g c p.
          let (v, m) = (x.entries_are g c).0 p in
          x.readings_are (name g c v) m ∙ sym (y.readings_are (name g c v) m);
    })

pub test_of_file_unique : (f : List ℕ) (cutoff : ℕ) (a b : Answer TestAndTable) → TestOfFile f cutoff a → TestOfFile f cutoff b → a ≡ b
test_of_file_unique f cutoff a b x y = range (cutoff_dec cutoff)
  where
    go : IsCutoff cutoff → Judged true f → a ≡ b
    go k (faulty {line = line} {why = why} z) = x.refusing k line why z ∙ sym (y.refusing k line why z)
    go k (legal {h} {es} l) =
        let w : IsLegal true f = record { heading = h; entries = es; legal_file = l } in
        let p = (x.accepted k).1 w in
        let q = (y.accepted k).1 w in
        let (g, c) = x.shape k h es l in
        let (m, d) = y.shape k h es l in
        let r : a.refusal ≡ b.refusal = p ∙ sym q in
        let s : a.value.test ≡ b.value.test =
        same_tests h es a.value.test b.value.test (x.test_legal p) (y.test_legal q) (x.test k h es l) (y.test k h es l) in
        let t : a.value.table ≡ b.value.table =
        same_tables a.value.table b.value.table (x.table p) (y.table q) (g ∙ sym m) (c ∙ sym d)
        (λ i j. either (x.pairs k h es l i j) (y.pairs k h es l i j)) in
        λ i. record { refusal = r i; value = record { test = s i; table = t i } }

    range : Dec (IsCutoff cutoff) → a ≡ b
    range (no n) = x.cutoff_refused n ∙ sym (y.cutoff_refused n)
    range (yes k) = go k x.every

pub test_is_read : (f : List ℕ) (cutoff : ℕ) (a : Answer TestAndTable) → TestOfFile f cutoff a → a ≡ read_test f cutoff
test_is_read f cutoff a x = test_of_file_unique f cutoff a (read_test f cutoff) x (test_of_file f cutoff (read_test f cutoff) refl)

-- ---- the line that decides
pub line_of_file : (integers : Bool) (f : List ℕ) (n : ℕ) → n ≡ stop_line integers f → LineOfFile integers f n
line_of_file integers f n e = record {
  none = λ l. e ∙ (legal_read l.legal_file).line;
  first = λ line why x. e ∙ (fault_read x).line;
  every = judged integers f;
}

pub line_of_file_unique : (integers : Bool) (f : List ℕ) (m n : ℕ) → LineOfFile integers f m → LineOfFile integers f n → m ≡ n
line_of_file_unique integers f m n x y = go x.every
  where
    go : Judged integers f → m ≡ n
    go (legal {h} {es} l) =
        let w : IsLegal integers f = record { heading = h; entries = es; legal_file = l } in
        x.none w ∙ sym (y.none w)
    go (faulty {line = line} {why = why} z) = x.first line why z ∙ sym (y.first line why z)

-- ---- comment lookup
module _ (f : List ℕ) (k : ℕ) where
  legal_found : IsLegal true f → comment_at f k ≡ comment_lines k (lines f)
  unfolding comment_at
  legal_found l = rw (eq-eqb (read_recorded true f).refusal 0 (legal_accepted l.legal_file))

  fault_found : (why : Refusal) → read_recorded true f ≡ refused_file why → comment_at f k ≡ record { refusal = number why; value = no_part }
  unfolding comment_at
  fault_found why e = rw e (rw (ne_eqb (number why) 0 (λ z. omega (arith, number_pos why))))

  pub comment_of_file : (a : Answer Part) → a ≡ comment_at f k → CommentOfFile f k a
  comment_of_file a e = record {
    shown = λ h es l. subst (λ (x : Answer Part). ShowsLine f k (comments_in l.passed) x) (sym e) (comment_shown l k);
    placed = λ l. e ∙ legal_found l;
    refusing = λ line why x. e ∙ fault_found why (fault_read x).is;
    every = judged true f;
  }

  pub comment_of_file_unique : (a b : Answer Part) → CommentOfFile f k a → CommentOfFile f k b → a ≡ b
  comment_of_file_unique a b x y = go x.every
    where
      go : Judged true f → a ≡ b
      go (legal {h} {es} l) =
          let w : IsLegal true f = record { heading = h; entries = es; legal_file = l } in
          x.placed w ∙ sym (y.placed w)
      go (faulty {line = line} {why = why} z) = x.refusing line why z ∙ sym (y.refusing line why z)

  pub comment_is_found : (a : Answer Part) → CommentOfFile f k a → a ≡ comment_at f k
  comment_is_found a x = comment_of_file_unique a (comment_at f k) x (comment_of_file (comment_at f k) refl)
