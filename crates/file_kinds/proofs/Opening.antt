-- The first line. In order: a line of a kind is its banner but for capitals in the words behind the opening (`kind_only`, `kind_mixed`), and
-- no line is of two kinds; a first line is read exactly when it is a banner in 01's words (`first_mixed`, `first_only`, `first_none`), and a banner
-- that is written is (`banner_reads`). Then what a comparison of the opening says of a kind (`opening_other`, `opening_words`), and an answer of
-- `first_line`.
-- Pins, which nothing else cites: `opening_other`, `opening_words`, `first-integer`.
use Prim.Native.Nat.{ℕ}
use mathlib.Core.Path.{◌≡◌, refl, sym, ap, ap₂, ◌∙◌}
use mathlib.Core.Logic.{◌↔◌}
use mathlib.Core.List.{List, [], ◌∷◌, ◌++◌, map}
use mathlib.Core.Bool.{Bool, true, false, cond, ◌&&◌}
use native.Mathlib.Omega.{arith}
use lib.ListN.{get_or, take, drop, take-append-drop}
use lib.Dec.{eqb}
use borrow.Author.Tests.{eqb-true, eq-eqb}
use Rattle.basics.proofs.Clash.{clash}
use Rattle.file_text.specs.Bytes.{same_bytes, small}
use Rattle.table.proofs.Legality.{both}
use Rattle.recorded.specs.declared.Kind.{Kind}
use Rattle.recorded.specs.declared.Kind.TheVariants.{Pattern, Integer}
use Rattle.file_kinds.specs.Banner.{opening, pattern, integer, words_of, takes, IsBanner, is_of_kind, first_line, banner_of}
use Rattle.file_kinds.specs.Banner.{FirstLine}
use Rattle.std.specs.Prelude.{Some as Banner, None as Other}

-- texts that compare as the same are the same
same_is : (a b : List ℕ) → same_bytes a b ≡ true → a ≡ b
same_is [] [] e = refl
same_is [] (y ∷ b) e = clash cc
same_is (x ∷ a) [] e = clash cc
same_is (x ∷ a) (y ∷ b) e =
    let (p, q) = both (eqb x y) (same_bytes a b) e in
    ap₂ (λ (z : ℕ) (s : List ℕ). z ∷ s) (eqb-true x y p) (same_is a b q)

-- a text compares as the same with itself
same_self : (a : List ℕ) → same_bytes a a ≡ true
same_self [] = refl
same_self (x ∷ a) = rw (eq-eqb x x refl) (same_self a)

-- a line of a kind is the opening, letter by letter, and a text that is its words in small letters; nothing else is
record Mixed (words l : List ℕ) : Type 0 where
  pub rest : List ℕ
  pub whole : l ≡ opening ++ rest
  pub letters : map small rest ≡ words

kind_only : (words l : List ℕ) → is_of_kind words l ≡ true → Mixed words l
kind_only words l e =
    let (p, q) = both (same_bytes (take 14 l) opening) (same_bytes (map small (drop 14 l)) words) e in
    record {
      rest = drop 14 l;
      whole = sym (take-append-drop 14 l) ∙ ap (λ (a : List ℕ). a ++ drop 14 l) (same_is (take 14 l) opening p);
      letters = same_is (map small (drop 14 l)) words q;
    }

kind_mixed : (words l : List ℕ) → Mixed words l → is_of_kind words l ≡ true
kind_mixed words l m = rw (m.whole, m.letters) (same_self words)

-- no line is of both kinds
pub kinds_apart : (l : List ℕ) → is_of_kind integer l ≡ true → is_of_kind pattern l ≡ false
kinds_apart l e = go (is_of_kind pattern l) refl
  where
    go : (t : Bool) → is_of_kind pattern l ≡ t → t ≡ false
    go false p = refl
    go true p =
        let q : pattern ≡ integer = sym (behind pattern p) ∙ behind integer e in
        let z : ◌≡◌ {A = ℕ} 112 105 = ap (λ (s : List ℕ). get_or s 19 0) q in
        absurd (omega arith)
      where
        behind : (words : List ℕ) → is_of_kind words l ≡ true → map small (drop 14 l) ≡ words
        behind words p = same_is (map small (drop 14 l)) words (both (same_bytes (take 14 l) opening) (same_bytes (map small (drop 14 l)) words) p).1

-- ---- the first line
-- an integer file's first line is no banner to a reader that does not take it, and a first line that is no integer banner is the same to both
pub integer_refused : (l : List ℕ) → is_of_kind integer l ≡ true → first_line false l ≡ Other
integer_refused l e = rw (kinds_apart l e)

pub first_same : (l : List ℕ) → is_of_kind integer l ≡ false → first_line true l ≡ first_line false l
first_same l e = rw e

pub first_mixed : (integers : Bool) (kind : Kind) (l : List ℕ) → IsBanner integers kind l → first_line integers l ≡ Banner kind
first_mixed integers Pattern l m = rw (kind_mixed pattern l (record { rest = m.rest; whole = m.whole; letters = m.letters }))
first_mixed integers Integer l m =
    let e = kind_mixed integer l (record { rest = m.rest; whole = m.whole; letters = m.letters }) in
    rw (kinds_apart l e, m.taken, e)

pub first_only : (integers : Bool) (kind : Kind) (l : List ℕ) → first_line integers l ≡ Banner kind → IsBanner integers kind l
first_only integers kind l e = go (is_of_kind pattern l) refl integers (is_of_kind integer l) refl kind e
  where
    is : (i : Bool) (k : Kind) → takes i k ≡ true → Mixed (words_of k) l → IsBanner i k l
    is i k t m = record { taken = t; rest = m.rest; whole = m.whole; letters = m.letters }

    go : (t : Bool) → is_of_kind pattern l ≡ t → (i u : Bool) → is_of_kind integer l ≡ u → (k : Kind)
        → cond t (Banner Pattern) (cond (i && u) (Banner Integer) Other) ≡ Banner k → IsBanner i k l
    go true p i u q Pattern d = is i Pattern refl (kind_only pattern l p)
    go true p i u q Integer d = clash cc
    go false p true true q Integer d = is true Integer refl (kind_only integer l q)
    go false p true true q Pattern d = clash cc
    go false p true false q k d = clash cc
    go false p false u q k d = clash cc

-- any other first line is the banner of no kind that is taken
pub first_none : (integers : Bool) (l : List ℕ) → (first_line integers l ≡ Other) ↔ ((kind : Kind) → ¬ IsBanner integers kind l)
first_none integers l = (
  λ e kind m. let d : Banner kind ≡ Other = sym (first_mixed integers kind l m) ∙ e in clash cc,
  λ n. go n (first_line integers l) refl,
)
  where
    go : ((kind : Kind) → ¬ IsBanner integers kind l) → (x : FirstLine) → first_line integers l ≡ x → first_line integers l ≡ Other
    go n (Banner kind) p = absurd (n kind (first_only integers kind l p))
    go n Other p = p

-- what is written is read
written : (kind : Kind) → map small (words_of kind) ≡ words_of kind
unfolding small
written Pattern = refl
written Integer = refl

pub banner_reads : (integers : Bool) (kind : Kind) → takes integers kind ≡ true → first_line integers (banner_of kind) ≡ Banner kind
banner_reads integers kind t = first_mixed integers kind (banner_of kind) (record { taken = t; rest = words_of kind; whole = refl; letters = written kind })

-- ---- the answers of the code
module _ (words l : List ℕ) (t : Bool) (e : t ≡ same_bytes (take 14 l) opening) where
  pub opening_other : t ≡ false → false ≡ is_of_kind words l
  opening_other f = ap (λ (u : Bool). u && same_bytes (map small (drop 14 l)) words) (sym f ∙ e)

  pub opening_words : t ≡ true → (u : Bool) → u ≡ same_bytes (map small (drop 14 l)) words → u ≡ is_of_kind words l
  opening_words f u d = ap₂ (λ (a b : Bool). a && b) (sym f ∙ e) d

module _ (integers : Bool) (l : List ℕ) (t : Bool) (e : t ≡ is_of_kind pattern l) (p : t ≡ false) (i : integers ≡ true) (u : Bool)
    (d : u ≡ is_of_kind integer l) where
  pub first-integer : u ≡ true → Banner Integer ≡ first_line integers l
  first-integer q = rw (sym e ∙ p, i, sym d ∙ q)
