-- The lines of a file in 01's words (`LinesAre` of specs/Texts.antt): `lines` gives them (`lines_are`), and there is no other way to take a file apart
-- (`lines_only`, `one_way`).
use Prim.Native.Nat.{ℕ}
use mathlib.Core.Path.{◌≡◌, refl, sym, ap, subst, ◌∙◌}
use mathlib.Core.Logic.{◌⊎◌, inl, inr}
use mathlib.Core.List.Memᴰ
use mathlib.Core.List.{List, [], ◌∷◌, ◌++◌, map, Memᴰ}
use mathlib.Core.Bool.{Bool, true, false, ◌&&◌}
use lib.Dec.{eqb}
use borrow.Author.Tests.{eqb-true, eqb-false, eq-eqb, ne_eqb}
use Rattle.basics.proofs.Clash.{clash}
use Rattle.file_text.specs.Lines.{Line, lines, at_crlf, extend}
use Rattle.file_text.specs.Texts.{Text, NoLF, NoCRLast, LinesAre, no_lines, last_line, by_lf, by_crlf}

-- the lines that `lines` gives, without their ends
abbrev pub text_of : Line → Text
text_of l = l.text

abbrev pub texts : List ℕ → List Text
texts f = map text_of (lines f)

-- one byte more in the first line
abbrev longer : ℕ → List Text → List Text
longer b [] = (b ∷ []) ∷ []
longer b (t ∷ ts) = (b ∷ t) ∷ ts

texts_longer : (b : ℕ) (ls : List Line) → map text_of (extend false b ls) ≡ longer b (map text_of ls)
texts_longer b [] = refl
texts_longer b (l ∷ ls) = refl

texts_lf : (b : ℕ) (s : List ℕ) → eqb b 10 ≡ true → texts (b ∷ s) ≡ [] ∷ texts s
unfolding lines
texts_lf b s e = rw (e, lines)

texts_byte : (b : ℕ) (s : List ℕ) → eqb b 10 ≡ false → at_crlf b s ≡ false → texts (b ∷ s) ≡ longer b (texts s)
unfolding lines
texts_byte b s e d = rw (e, lines) (rw d (texts_longer b (lines s)))

lines_lf : (b : ℕ) (s : List ℕ) → eqb b 10 ≡ true → lines (b ∷ s) ≡ record { text = []; size = 1 } ∷ lines s
unfolding lines
lines_lf b s e = rw (e, lines)

lines_byte : (b : ℕ) (s : List ℕ) → eqb b 10 ≡ false → lines (b ∷ s) ≡ extend (at_crlf b s) b (lines s)
unfolding lines
lines_byte b s e = rw (e, lines)

crlf_yes : (b c : ℕ) (s : List ℕ) → eqb b 13 ≡ true → eqb c 10 ≡ true → at_crlf b (c ∷ s) ≡ true
crlf_yes b c s d k = rw (d, k)

texts_crlf : (b c : ℕ) (s : List ℕ) → eqb b 10 ≡ false → eqb b 13 ≡ true → eqb c 10 ≡ true → texts (b ∷ c ∷ s) ≡ [] ∷ texts s
texts_crlf b c s e d k =
    ap (map text_of)
    (lines_byte b (c ∷ s) e
    ∙ ap (λ (x : Bool). extend x b (lines (c ∷ s))) (crlf_yes b c s d k)
    ∙ ap (extend true b) (lines_lf c s k))

-- a byte in front that is no LF, and no CR ahead of an LF
no_lf_more : (b : ℕ) (t : Text) → ¬ (b ≡ 10) → NoLF t → NoLF (b ∷ t)
no_lf_more b t n m k = go (Memᴰ.cases_cons k)
  where
    go : (10 ≡ b) ⊎ Memᴰ 10 t → ⊥
    go (inl e) = n (sym e)
    go (inr k) = m k

grow : (b : ℕ) (s : List ℕ) (us : List Text) → LinesAre s us → ¬ (b ≡ 10) → at_crlf b s ≡ false → LinesAre (b ∷ s) (longer b us)
grow b s us no_lines n c = last_line (b ∷ []) (no_lf_more b [] n (λ k. Memᴰ.not-nil k)) (λ e. clash (cc))
grow b s us (last_line t m e) n c = last_line (b ∷ t) (no_lf_more b t n m) (λ e. clash (cc))
grow b s us (by_lf t f m k l) n c = by_lf (b ∷ t) f (no_lf_more b t n m) (λ a. last t k c a) l
  where
    last : (t : Text) → NoCRLast t → at_crlf b (t ++ 10 ∷ f) ≡ false → (a : Text) → ¬ (b ∷ t ≡ a ++ 13 ∷ [])
    last [] k c [] e = let p : b ≡ 13 = cc in let z : true ≡ false = rw (eq-eqb b 13 p) at c in clash (cc)
    last (x ∷ t) k c [] e = clash (cc)
    last t k c (y ∷ a) e = k a (cc)
grow b s us (by_crlf t f m l) n c = by_crlf (b ∷ t) f (no_lf_more b t n m) l

-- a CR ahead of an LF
both : (b c : ℕ) → (eqb b 13 && eqb c 10) ≡ true → (b ≡ 13) × (c ≡ 10)
both b c e = go (eqb b 13) refl (eqb c 10) refl
  where
    go : (x : Bool) → eqb b 13 ≡ x → (y : Bool) → eqb c 10 ≡ y → (b ≡ 13) × (c ≡ 10)
    go true p true q = (eqb-true b 13 p, eqb-true c 10 q)
    go true p false q = let z : false ≡ true = rw (p, q) at e in clash (cc)
    go false p y q = let z : false ≡ true = rw p at e in clash (cc)

crlf_nil : (b : ℕ) → at_crlf b [] ≡ false
crlf_nil b = go (eqb b 13)
  where
    go : (x : Bool) → (x && false) ≡ false
    go true = refl
    go false = refl

-- one byte, by what is known of the lines behind it
at_lf_lem : (b : ℕ) (s : List ℕ) → eqb b 10 ≡ true → LinesAre s (texts s) → LinesAre (b ∷ s) (texts (b ∷ s))
at_lf_lem b s e l =
    let p : b ≡ 10 = eqb-true b 10 e in
    subst (LinesAre (b ∷ s)) (sym (texts_lf b s e))
    (subst (λ (x : ℕ). LinesAre (x ∷ s) ([] ∷ texts s)) (sym p)
    (by_lf [] s (λ k. Memᴰ.not-nil k) (λ a z. empty a z) l))
  where
    empty : (a : Text) → ¬ ([] ≡ a ++ 13 ∷ [])
    empty [] z = clash (cc)
    empty (x ∷ a) z = clash (cc)

at_byte : (b : ℕ) (s : List ℕ) → eqb b 10 ≡ false → at_crlf b s ≡ false → LinesAre s (texts s) → LinesAre (b ∷ s) (texts (b ∷ s))
at_byte b s e d l = subst (LinesAre (b ∷ s)) (sym (texts_byte b s e d)) (grow b s (texts s) l (eqb-false b 10 e) d)

at_crlf_lem : (b c : ℕ) (s : List ℕ) → eqb b 10 ≡ false → at_crlf b (c ∷ s) ≡ true → LinesAre s (texts s) → LinesAre (b ∷ c ∷ s) (texts (b ∷ c ∷ s))
at_crlf_lem b c s e d l =
    let (p, q) = both b c d in
    subst (LinesAre (b ∷ c ∷ s)) (sym (texts_crlf b c s e (eq-eqb b 13 p) (eq-eqb c 10 q)))
    (subst (λ (x : ℕ). LinesAre (x ∷ c ∷ s) ([] ∷ texts s)) (sym p)
    (subst (λ (x : ℕ). LinesAre (13 ∷ x ∷ s) ([] ∷ texts s)) (sym q) (by_crlf [] s (λ k. Memᴰ.not-nil k) l)))

first_byte : (b : ℕ) (s : List ℕ) → LinesAre s (texts s) → (x : Bool) → eqb b 10 ≡ x → (y : Bool) → at_crlf b s ≡ y
    → ((c : ℕ) (r : List ℕ) → s ≡ c ∷ r → LinesAre r (texts r)) → LinesAre (b ∷ s) (texts (b ∷ s))
first_byte b s l true e y d k = at_lf_lem b s e l
first_byte b s l false e false d k = at_byte b s e d l
first_byte b [] l false e true d k = let z : false ≡ true = sym (crlf_nil b) ∙ d in clash (cc)
first_byte b (c ∷ r) l false e true d k = at_crlf_lem b c r e d (k c r refl)

lines_both : (f : List ℕ) → LinesAre f (texts f) × ((c : ℕ) (r : List ℕ) → f ≡ c ∷ r → LinesAre r (texts r))
unfolding lines
lines_both [] = (no_lines, λ c r e. clash (cc))
lines_both (b ∷ s) =
    let (l, k) = lines_both s in
    (first_byte b s l (eqb b 10) refl (at_crlf b s) refl k, λ c r e. subst (λ (x : List ℕ). LinesAre x (texts x)) (cc) l)

pub lines_are : (f : List ℕ) → LinesAre f (texts f)
lines_are f = (lines_both f).0

-- ---- no other list is
no_lf_head : (b : ℕ) (t : Text) → NoLF (b ∷ t) → eqb b 10 ≡ false
no_lf_head b t n = ne_eqb b 10 (λ e. n (Memᴰ.head (sym e)))

no_lf_tail : (b : ℕ) (t : Text) → NoLF (b ∷ t) → NoLF t
no_lf_tail b t n k = n (Memᴰ.tail k)

-- the byte b ahead of the line t and what ends it is no CR ahead of an LF
not_crlf : (b c : ℕ) (r : List ℕ) → eqb c 10 ≡ false → at_crlf b (c ∷ r) ≡ false
not_crlf b c r e = rw e (go (eqb b 13))
  where
    go : (x : Bool) → (x && false) ≡ false
    go true = refl
    go false = refl

not_cr : (b : ℕ) (s : List ℕ) → ¬ (b ≡ 13) → at_crlf b s ≡ false
not_cr b s n = rw (ne_eqb b 13 n)

front_last : (t : Text) → NoLF t → ¬ (t ≡ []) → texts t ≡ t ∷ []
unfolding lines
front_last [] n e = absurd (e refl)
front_last (b ∷ []) n e = texts_byte b [] (no_lf_head b [] n) (crlf_nil b)
front_last (b ∷ c ∷ t) n e =
    texts_byte b (c ∷ t) (no_lf_head b (c ∷ t) n) (not_crlf b c t (no_lf_head c t (no_lf_tail b (c ∷ t) n)))
    ∙ ap (longer b) (front_last (c ∷ t) (no_lf_tail b (c ∷ t) n) (λ z. clash (cc)))

front_lf : (t f : List ℕ) → NoLF t → NoCRLast t → texts (t ++ 10 ∷ f) ≡ t ∷ texts f
front_lf [] f n c = texts_lf 10 f refl
front_lf (b ∷ []) f n c =
    texts_byte b (10 ∷ f) (no_lf_head b [] n) (not_cr b (10 ∷ f) (λ e. c [] (ap (λ (x : ℕ). x ∷ []) e)))
    ∙ ap (longer b) (texts_lf 10 f refl)
front_lf (b ∷ d ∷ t) f n c =
    texts_byte b (d ∷ (t ++ 10 ∷ f)) (no_lf_head b (d ∷ t) n) (not_crlf b d (t ++ 10 ∷ f) (no_lf_head d t (no_lf_tail b (d ∷ t) n)))
    ∙ ap (longer b) (front_lf (d ∷ t) f (no_lf_tail b (d ∷ t) n) (λ a e. c (b ∷ a) (ap (λ (x : Text). b ∷ x) e)))

front_crlf : (t f : List ℕ) → NoLF t → texts (t ++ 13 ∷ 10 ∷ f) ≡ t ∷ texts f
front_crlf [] f n = texts_crlf 13 10 f refl refl refl
front_crlf (b ∷ []) f n =
    texts_byte b (13 ∷ 10 ∷ f) (no_lf_head b [] n) (not_crlf b 13 (10 ∷ f) refl) ∙ ap (longer b) (texts_crlf 13 10 f refl refl refl)
front_crlf (b ∷ d ∷ t) f n =
    texts_byte b (d ∷ (t ++ 13 ∷ 10 ∷ f)) (no_lf_head b (d ∷ t) n) (not_crlf b d (t ++ 13 ∷ 10 ∷ f) (no_lf_head d t (no_lf_tail b (d ∷ t) n)))
    ∙ ap (longer b) (front_crlf (d ∷ t) f (no_lf_tail b (d ∷ t) n))

pub lines_only : (f : List ℕ) (ts : List Text) → LinesAre f ts → texts f ≡ ts
unfolding lines
lines_only f ts no_lines = refl
lines_only f ts (last_line t n e) = front_last t n e
lines_only f ts (by_lf t g n c l) = front_lf t g n c ∙ ap (λ (x : List Text). t ∷ x) (lines_only g _ l)
lines_only f ts (by_crlf t g n l) = front_crlf t g n ∙ ap (λ (x : List Text). t ∷ x) (lines_only g _ l)

pub one_way : (f : List ℕ) (ts us : List Text) → LinesAre f ts → LinesAre f us → ts ≡ us
one_way f ts us a b = sym (lines_only f ts a) ∙ lines_only f us b

pub lines_to : (f : List ℕ) (ts : List Text) → texts f ≡ ts → LinesAre f ts
lines_to f ts e = subst (LinesAre f) e (lines_are f)
