-- What a caller reads off the promises, sentence by sentence (specs/Serving and specs/Words).
--
-- In order: the number of a release: which it is (`this_release_lem`), that it tells releases apart (`release_one`) and
-- orders them (`release_later`); which numbers have words (`texts_numbered`, `words_other`), some of these
-- (`words_known`, `words_byte`), and that all are of ASCII, not empty and shorter than their layout (`words_plain`,
-- `words_fit`); what asking for words leaves: 100 and everything as it was (`words_short`), or 0 (`words-number`),
-- the bytes (`words-bytes`), a zero behind them (`words-end`), what comes after the layout (`words-behind`) and the
-- length (`words-length`); what asking for the plain order leaves: 100 (`plain_short`), 10 (`plain-range`), or 0
-- (`plain-accepted`), 1, 2, 3, .. (`plain-number-at`), zeros (`plain-zero-at`) and what is behind the layout
-- (`plain-behind`), which 27 refuses for no table of so many gauges or cases (`plain-taken`).
--
-- Elsewhere: one answer for every input, Answers.antt.
use mathlib.Core.Path.{◌≡◌, refl, sym, ap, ◌∙◌, subst}
use mathlib.Core.Bool.{Bool, true, false, cond, ◌&&◌, ◌||◌}
use mathlib.Core.Logic.{◌⊎◌, inl, inr}
use mathlib.Core.List.{List, [], ◌∷◌, ◌++◌, map}
use Prim.Native.Nat.{ℕ, zero, suc, ◌+◌, ◌≤◌, ◌<◌}
use Prim.Native.String.{String}
use native.Mathlib.Nat.{zero-add, not-suc-le-zero, le_of_suc-le-suc}
use native.Mathlib.Decide.{ℕ_discrete, dec_lt}
use native.Mathlib.Omega.{arith}
use lib.Dec.{T, eqb, leb, ltb}
use lib.ListN.{length, get_or, drop, get_or-append, get_or-eq_default}
use lib.Seq.{sets as stored, drop-append_seam}
use borrow.Author.Tests.{ne_eqb, eq-eqb, lt-leb, leb-true, ltb-true}
use Rattle.sets.specs.Lists.{tabulate}
use Rattle.sets.proofs.Tests.{and_l, and_r, is_true}
use Rattle.sets.proofs.Tabulated.{length-tabulate, get_or-tabulate}
use Rattle.table.specs.declared.Table.{Table}
use Rattle.table.specs.Tables.{in_range, table_refusal}
use Rattle.table.proofs.Legality.{in_range_lem, below_range, above_range}
use Rattle.preference.specs.Preferences.{preferred_refusal, plain_numbers}
use Rattle.preference.specs.private.Testing.{plain_at}
use Rattle.preference.proofs.PlainOrder.{plain_front, plain_rest, plain_written, plain_unrefused, length_numbers}
use Rattle.words.specs.Layouts.{word_at, numbers_at}
use Rattle.words.proofs.Back.{numbers_are, front_is}
use Rattle.c_support.specs.Words.{bytes_of, text_in, texts, other_text, words_of}
use Rattle.c_support.specs.Serving.{release_number, this_release, lent, SaysWords, GivesPlain}
use Rattle.c_support.proofs.Answers.{says_served, plain_served}

-- ---- the number of a release
pub this_release_lem : this_release ≡ 10000
this_release_lem = refl

-- of releases whose later parts are below 100, no two have one number, and a later one has the greater
module _ (a b c x y z : ℕ) (lb : b < 100) (lc : c < 100) (ly : y < 100) (lz : z < 100) where
  pub release_one : release_number a b c ≡ release_number x y z → (a ≡ x) × (b ≡ y) × (c ≡ z)
  release_one e = (omega arith, omega arith, omega arith)

  pub release_later : (a < x) ⊎ ((a ≡ x) × ((b < y) ⊎ ((b ≡ y) × (c < z)))) → release_number a b c < release_number x y z
  release_later (inl h) = omega arith
  release_later (inr (e, inl h)) = omega arith
  release_later (inr (e, inr (d, h))) = omega arith

-- ---- which numbers have words
pub texts_numbered : map (λ (t : ℕ × String). t.0) texts ≡ tabulate (λ i. i) 29 ++ (100 ∷ [])
unfolding tabulate
texts_numbered = refl

-- a test of each number in a list and its text
all_texts : (ℕ × String → Bool) → List (ℕ × String) → Bool
all_texts f [] = true
all_texts f (t ∷ ts) = f t && all_texts f ts

-- what holds of each text of a list, and of the other one, holds of the text of every number
text_all : (f : String → Bool) (ts : List (ℕ × String)) (other : String) (n : ℕ) → T (all_texts (λ t. f t.1) ts) → T (f other) → T (f (text_in ts other n))
unfolding text_in all_texts
text_all f [] other n h o = o
text_all f (t ∷ ts) other n h o = go (ℕ_discrete n t.0) (text_all f ts other n (and_r (f t.1) (all_texts (λ u. f u.1) ts) h) o)
  where
    go : Dec (n ≡ t.0) → T (f (text_in ts other n)) → T (f (cond (eqb n t.0) t.1 (text_in ts other n)))
    go (yes e) k = rw (eq-eqb n t.0 e) (and_l (f t.1) (all_texts (λ u. f u.1) ts) h)
    go (no e) k = rw (ne_eqb n t.0 e) k

-- a number that fails a test of every number in a list has the other text
text_beyond : (f : ℕ → Bool) (ts : List (ℕ × String)) (other : String) (n : ℕ) → T (all_texts (λ t. f t.0) ts) → f n ≡ false → text_in ts other n ≡ other
unfolding text_in all_texts
text_beyond f [] other n h d = refl
text_beyond f (t ∷ ts) other n h d =
    rw (ne_eqb n t.0 differs) (text_beyond f ts other n (and_r (f t.0) (all_texts (λ u. f u.0) ts) h) d)
  where
    differs : n ≡ t.0 → ⊥
    differs e = subst T (sym (ap f e) ∙ d) (and_l (f t.0) (all_texts (λ u. f u.0) ts) h)

pub words_other : (n : ℕ) → 28 < n → ¬ (n ≡ 100) → words_of n ≡ bytes_of "a number without words"
unfolding words_of all_texts
words_other n l h =
    ap bytes_of
    (text_beyond (λ k. leb k 28 || eqb k 100) texts other_text n tt (rw (lt-leb n 28 l, ne_eqb n 100 h)))

-- some of them, byte by byte
pub words_known : (words_of 0 ≡ bytes_of "accepted") × (words_of 14 ≡ bytes_of "not a chain") × (words_of 100 ≡ bytes_of "lent memory is shorter than its layout")
unfolding words_of text_in
words_known = (refl, refl, refl)

pub words_byte : words_of 23 ≡ 71 ∷ 32 ∷ 111 ∷ 114 ∷ 32 ∷ 76 ∷ 32 ∷ 97 ∷ 98 ∷ 111 ∷ 118 ∷ 101 ∷ 32 ∷ 56 ∷ []
unfolding words_of text_in bytes_of
words_byte = refl

-- ---- the words are of ASCII, not empty, and shorter than their layout
is_plain : List ℕ → Bool
is_plain [] = true
is_plain (b ∷ t) = (leb 32 b && leb b 126) && is_plain t

fits : String → Bool
fits s = is_plain (bytes_of s) && (leb 1 (length (bytes_of s)) && ltb (length (bytes_of s)) 80)

words_tested : (n : ℕ) → T (fits (text_in texts other_text n))
unfolding all_texts is_plain fits bytes_of
words_tested n = text_all fits texts other_text n tt tt

plain_byte : (t : List ℕ) (i : ℕ) → T (is_plain t) → i < length t → (32 ≤ get_or t i 0) × (get_or t i 0 ≤ 126)
unfolding is_plain
plain_byte [] i h l = absurd (not-suc-le-zero l)
plain_byte (b ∷ t) zero h l =
    let both : T (leb 32 b && leb b 126) = and_l (leb 32 b && leb b 126) (is_plain t) h in
    (leb-true 32 b (is_true (leb 32 b) (and_l (leb 32 b) (leb b 126) both)), leb-true b 126 (is_true (leb b 126) (and_r (leb 32 b) (leb b 126) both)))
plain_byte (b ∷ t) (suc i) h l = plain_byte t i (and_r (leb 32 b && leb b 126) (is_plain t) h) (le_of_suc-le-suc l)

pub words_plain : (n i : ℕ) → i < length (words_of n) → (32 ≤ get_or (words_of n) i 0) × (get_or (words_of n) i 0 ≤ 126)
unfolding words_of fits
words_plain n i l = plain_byte (words_of n) i (and_l (is_plain (words_of n)) (leb 1 (length (words_of n)) && ltb (length (words_of n)) 80) (words_tested n)) l

pub words_fit : (n : ℕ) → (1 ≤ length (words_of n)) × (length (words_of n) < 80)
unfolding words_of fits
words_fit n =
    let k = length (words_of n) in
    let both : T (leb 1 k && ltb k 80) = and_r (is_plain (words_of n)) (leb 1 k && ltb k 80) (words_tested n) in
    (leb-true 1 k (is_true (leb 1 k) (and_l (leb 1 k) (ltb k 80) both)), ltb-true k 80 (is_true (ltb k 80) (and_r (leb 1 k) (ltb k 80) both)))

-- ---- what the entry leaves
lent_byte : (t : List ℕ) (i : ℕ) → i < 80 → get_or (lent t) i 0 ≡ get_or t i 0
lent_byte t i l = get_or-tabulate (λ j. get_or t j 0) 80 i l

lent_size : (t : List ℕ) → length (lent t) ≡ 80
lent_size t = length-tabulate (λ j. get_or t j 0) 80

module _ (n : ℕ) (text len text' len' : List ℕ) (r : ℕ) (g : SaysWords n text len text' len' r) where
  pub words_short : (length text < 80) ⊎ (length len < 1) → (r ≡ 100) × (text' ≡ text) × (len' ≡ len)
  words_short h = g.short h

  module _ (lt : 80 ≤ length text) (ll : 1 ≤ length len) where
    pub words-number : r ≡ 0
    words-number = (says_served n text len lt ll text' len' r g).0

    left : text' ≡ lent (words_of n) ++ drop 80 text
    left = (says_served n text len lt ll text' len' r g).1

    pub words-bytes : (i : ℕ) → i < 80 → get_or text' i 0 ≡ get_or (words_of n) i 0
    words-bytes i l =
        ap (λ (w : List ℕ). get_or w i 0) left ∙ get_or-append (lent (words_of n)) (drop 80 text) 0 i (omega (arith, lent_size (words_of n)))
        ∙ lent_byte (words_of n) i l

    -- so they are a text as C has it
    pub words-end : get_or text' (length (words_of n)) 0 ≡ 0
    words-end = words-bytes (length (words_of n)) (words_fit n).1 ∙ get_or-eq_default (words_of n) 0 (omega arith)

    pub words-behind : drop 80 text' ≡ drop 80 text
    words-behind =
        ap (drop 80) left ∙ ap (λ (k : ℕ). drop k (lent (words_of n) ++ drop 80 text)) (sym (lent_size (words_of n)))
        ∙ drop-append_seam (lent (words_of n)) (drop 80 text)

    pub words-length : len' ≡ length (words_of n) ∷ drop 1 len
    words-length = (says_served n text len lt ll text' len' r g).2

-- ---- the plain order
plain_at_lem : (n i : ℕ) → i < 64 → get_or (plain_numbers n) i 0 ≡ plain_at n i
plain_at_lem n i l = ap (λ (k : List ℕ). get_or k i 0) (sym (plain_written n (tabulate (plain_at n) 64) refl)) ∙ get_or-tabulate (plain_at n) 64 i l

at_most : (n i : ℕ) → i < 64 → plain_at n i ≤ 64
at_most n i l = go (dec_lt i n)
  where
    go : Dec (i < n) → plain_at n i ≤ 64
    go (yes h) = omega (arith, plain_front n i (i + 1) h refl)
    go (no h) = omega (arith, plain_rest n i (omega arith))

module _ (n : ℕ) (out out' : List ℕ) (r : ℕ) (g : GivesPlain n out out' r) where
  pub plain_short : length out < 64 → (r ≡ 100) × (out' ≡ out)
  plain_short h = g.short h

  module _ (l : 64 ≤ length out) where
    pub plain-range : (n < 1) ⊎ (64 < n) → (r ≡ 10) × (out' ≡ out)
    plain-range h =
        let (e, d) = plain_served n out l out' r g in
        let z : in_range 64 n ≡ false = outside h in
        (e ∙ rw z, d ∙ rw z)
      where
        outside : (n < 1) ⊎ (64 < n) → in_range 64 n ≡ false
        outside (inl k) = sym (below_range 64 n k)
        outside (inr k) = sym (above_range 64 n (omega arith) k)

    module _ (some : 1 ≤ n) (few : n ≤ 64) where
      given : (r ≡ 0) × (out' ≡ plain_numbers n ++ drop 64 out)
      given =
          let (e, d) = plain_served n out l out' r g in
          let z : in_range 64 n ≡ true = in_range_lem 64 n some few in
          let s : out' ≡ stored out 0 (plain_numbers n) = d ∙ rw z in (
            e ∙ rw z,
            s ∙ front_is out (plain_numbers n) (omega (arith, length_numbers n)) ∙ ap (λ (k : ℕ). plain_numbers n ++ drop k out) (length_numbers n),
          )

      pub plain-accepted : r ≡ 0
      plain-accepted = given.0

      word : (i : ℕ) → i < 64 → word_at out' i ≡ get_or (plain_numbers n) i 0
      word i h = ap (λ (w : List ℕ). word_at w i) given.1 ∙ get_or-append (plain_numbers n) (drop 64 out) 0 i (omega (arith, length_numbers n))

      pub plain-number-at : (i : ℕ) → i < n → word_at out' i ≡ i + 1
      plain-number-at i h = word i (omega arith) ∙ plain_at_lem n i (omega arith) ∙ sym (plain_front n i (i + 1) h refl)

      pub plain-zero-at : (i : ℕ) → n ≤ i → i < 64 → word_at out' i ≡ 0
      plain-zero-at i h b = word i b ∙ plain_at_lem n i b ∙ sym (plain_rest n i h)

      pub plain-behind : drop 64 out' ≡ drop 64 out
      plain-behind =
          ap (drop 64) given.1 ∙ ap (λ (k : ℕ). drop k (plain_numbers n ++ drop 64 out)) (sym (length_numbers n))
          ∙ drop-append_seam (plain_numbers n) (drop 64 out)

      read : numbers_at 0 out' ≡ plain_numbers n
      read =
          numbers_are out' 0 (plain_numbers n) (length_numbers n)
          (λ i h. (ap (word_at out') (zero-add i) ∙ word i h, omega (arith, plain_at_lem n i h, at_most n i h)))

      -- 27 does not refuse it: a table with it gets the number that the table gets
      pub plain-taken : (t : Table) → preferred_refusal t n (numbers_at 0 out') ≡ table_refusal t
      unfolding preferred_refusal
      plain-taken t = rw (read, plain_unrefused n few) (go (ℕ_discrete (table_refusal t) 0))
        where
          go : Dec (table_refusal t ≡ 0) → cond (eqb (table_refusal t) 0) 0 (table_refusal t) ≡ table_refusal t
          go (yes e) = rw e
          go (no e) = rw (ne_eqb (table_refusal t) 0 e)
