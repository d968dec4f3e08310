-- A file is legal in one way only (`one_legal`): one heading and one list of entries. Its lines are given (`one_way` of crate `file_text`), the lines
-- ahead of the size line are passed over and the size line is not, so it falls into its parts at one place (`one_split`).
use Prim.Native.Nat.{ℕ}
use mathlib.Core.Path.{◌≡◌, refl, sym, ap, ap₂, ◌∙◌}
use mathlib.Core.List.{List, [], ◌∷◌, ◌++◌}
use mathlib.Core.Bool.{Bool}
use Rattle.basics.proofs.Clash.{clash}
use Rattle.file_text.specs.Texts.{Text}
use Rattle.file_text.proofs.LinesLaw.{one_way}
use Rattle.file_kinds.specs.Banner.{first_line}
use Rattle.file_kinds.specs.Kinds.{head_line}
use Rattle.file_kinds.specs.OneLine.{PassedLine, SizeLine}
use Rattle.std.specs.Prelude.{Some as Banner}
use Rattle.file_kinds.specs.declared.HeadLine.TheVariants.{Size, Skip as skip_head}
use Rattle.file_kinds.proofs.Opening.{first_mixed}
use Rattle.file_kinds.proofs.LineWords.{passed_line, size_line}
use Rattle.file_reader.specs.Files.{Heading, Named, Every, all_more, LegalFile}
use Rattle.file_reader.proofs.FileRuns.{named, lists_named}

-- the size line is not passed over
size_stays : (t : Text) (g l n : ℕ) → SizeLine t g l n → ¬ PassedLine t
size_stays t g l n s p =
    let e : Size (record { 0 = g }) (record { 0 = l }) n ≡ skip_head =
    sym ((size_line t (record { 0 = g }) (record { 0 = l }) n).1 s) ∙ (passed_line t).1 p in
    clash (cc)

-- the first line that is not such is one place
record SameParts (a b : List Text) (s t : Text) (x y : List Text) : Type 0 where
  pub front : a ≡ b
  pub here : s ≡ t
  pub back : x ≡ y

one_split : {P : Text → Type 0} (a b : List Text) (s t : Text) (x y : List Text) → Every P a → Every P b → ¬ P s → ¬ P t → a ++ s ∷ x ≡ b ++ t ∷ y
    → SameParts a b s t x y
one_split [] [] s t x y p q m n e = record { front = refl; here = cc; back = cc }
one_split [] (u ∷ b) s t x y p (all_more k q) m n e = let d : u ≡ s = cc in absurd (m (rw d at k))
one_split (u ∷ a) [] s t x y (all_more k p) q m n e = let d : u ≡ t = cc in absurd (n (rw d at k))
one_split (u ∷ a) (w ∷ b) s t x y (all_more k p) (all_more l q) m n e =
    let d : u ≡ w = cc in
    let r = one_split a b s t x y p q m n (cc) in
    record { front = ap₂ (λ (z : Text) (zs : List Text). z ∷ zs) d r.front; here = r.here; back = r.back }

pub record SameFile (h k : Heading) (es fs : List Named) : Type 0 where
  pub headings : h ≡ k
  pub entries : es ≡ fs

pub one_legal : {integers : Bool} {f : List ℕ} {h k : Heading} {es fs : List Named} → LegalFile integers f h es → LegalFile integers f k fs → SameFile h k es fs
one_legal {integers} {f} {h} {k} {es} {fs} x y =
    let o = x.sized.opened in
    let u = y.sized.opened in
    let e = one_way f (o.first ∷ (x.passed ++ x.sized.size ∷ x.body)) (u.first ∷ (y.passed ++ y.sized.size ∷ y.body)) o.lines_are u.lines_are in
    let d : o.first ≡ u.first = cc in
    let w = one_split x.passed y.passed x.sized.size y.sized.size x.body y.body o.passing u.passing
    (size_stays x.sized.size h.gauges.0 h.cases.0 h.count x.sized.is_size)
    (size_stays y.sized.size k.gauges.0 k.cases.0 k.count y.sized.is_size) (cc) in
    let b : Banner h.kind ≡ Banner k.kind =
    sym (first_mixed integers h.kind o.first o.banner) ∙ ap (first_line integers) d ∙ first_mixed integers k.kind u.first u.banner in
    let z : Size h.gauges h.cases h.count ≡ Size k.gauges k.cases k.count =
    sym ((size_line x.sized.size h.gauges h.cases h.count).1 x.sized.is_size)
    ∙ ap head_line w.here
    ∙ (size_line y.sized.size k.gauges k.cases k.count).1 y.sized.is_size in
    let p : h.kind ≡ k.kind = cc in
    let q : h.gauges ≡ k.gauges = cc in
    let r : h.cases ≡ k.cases = cc in
    let n : h.count ≡ k.count = cc in
    let t : h ≡ k = λ i. record { kind = p i; gauges = q i; cases = r i; count = n i } in
    record {
      headings = t;
      entries = sym (lists_named h x.body es x.lists) ∙ ap₂ named t w.back ∙ lists_named k y.body fs y.lists;
    }
