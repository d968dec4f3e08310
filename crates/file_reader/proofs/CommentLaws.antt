-- The comment lines of a legal file are the `%` lines ahead of its size line, and comment lookup shows them in turn (`comment_shown`).
use Prim.Native.Nat.{ℕ, zero, suc, ◌+◌, ◌-◌, ◌<◌}
use mathlib.Core.Path.{◌≡◌, refl, sym, ap, subst, ◌∙◌}
use mathlib.Core.List.{List, [], ◌∷◌, ◌++◌, map}
use mathlib.Core.Bool.{Bool, true, false}
use native.Mathlib.Omega.{arith}
use native.Mathlib.Decide.{dec_lt}
use lib.ListN.{length, get_or, take, drop}
use lib.Seq.{length-take-le, drop-drop}
use borrow.Author.Tests.{lt-ltb, eq-eqb}
use Rattle.basics.proofs.Clash.{clash}
use Rattle.refusals.specs.Answers.{Answer}
use Rattle.file_text.specs.Lines.{Line, lines}
use Rattle.file_text.proofs.FirstLine.{line_len, line_size, lines_first_of, size_le, len_le_size}
use Rattle.file_kinds.specs.Kinds.{is_comment}
use Rattle.file_kinds.specs.declared.EntryLine.TheVariants.{Entry, Skip as skip_entry}
use Rattle.file_reader.specs.private.Reading.{read_recorded, comment_at}
use Rattle.file_reader.specs.Comments.{Part, no_comment, comment_from, comment_lines}
use Rattle.file_reader.specs.Files.{Heading, Named, Lists, lists_none, lists_blank, lists_entry, LegalFile}
use Rattle.file_text.proofs.LinesLaw.{text_of, lines_only}
use Rattle.file_text.specs.Texts.{Text}
use Rattle.file_reader.specs.Promises.{comments_in, ShowsLine}
use Rattle.file_reader.proofs.Late.{not_comment}
use Rattle.file_kinds.proofs.LineWords.{blank_line, entry_line_lem}
use Rattle.file_reader.proofs.FileLaws.{cons, legal_accepted}

-- ---- the line at a place: its bytes, and the lines behind it
record Placed (f : List ℕ) (at : ℕ) (l : Line) (ls : List Line) : Type 0 where
  pub bytes : take (length l.text) (drop at f) ≡ l.text
  pub behind : lines (drop (at + l.size) f) ≡ ls

front_of : (s : List ℕ) (l : Line) (ls : List Line) → lines s ≡ l ∷ ls
    → (take (length l.text) s ≡ l.text) × (lines (drop l.size s) ≡ ls)
unfolding lines
front_of [] l ls e = clash cc
front_of (b ∷ r) l ls e =
    let s = b ∷ r in
    let d = lines_first_of s (omega arith) in
    let p : record { text = take (line_len s) s; size = line_size s } ∷ lines (drop (line_size s) s) ≡ l ∷ ls = sym d ∙ e in
    let q : record { text = take (line_len s) s; size = line_size s } ≡ l = cc in
    let t : take (line_len s) s ≡ l.text = ap (λ (x : Line). x.text) q in
    let z : line_size s ≡ l.size = ap (λ (x : Line). x.size) q in
    let k : lines (drop (line_size s) s) ≡ ls = cc in
    let n : length l.text ≡ line_len s = ap length (sym t) ∙ length-take-le (line_len s) s (omega (arith, len_le_size s, size_le s)) in
    (ap (λ (x : ℕ). take x s) n ∙ t, ap (λ (x : ℕ). lines (drop x s)) (sym z) ∙ k)

placed : (f : List ℕ) (at : ℕ) (l : Line) (ls : List Line) → lines (drop at f) ≡ l ∷ ls → Placed f at l ls
placed f at l ls e =
    let w = front_of (drop at f) l ls e in
    record { bytes = w.0; behind = ap lines (sym (drop-drop l.size at f)) ∙ w.1 }

-- ---- the comments among lines
comments_yes : (t : Text) (ts : List Text) → is_comment t ≡ true → comments_in (t ∷ ts) ≡ t ∷ comments_in ts
unfolding comments_in
comments_yes t ts p = rw (p, comments_in)

comments_no : (t : Text) (ts : List Text) → is_comment t ≡ false → comments_in (t ∷ ts) ≡ comments_in ts
unfolding comments_in
comments_no t ts p = rw (p, comments_in)

comments_none : comments_in [] ≡ []
unfolding comments_in
comments_none = refl

-- ---- the lookup, line by line
from_none : (k at : ℕ) → comment_from k at [] ≡ no_comment
unfolding comment_from
from_none k at = refl

from_pass : (k at : ℕ) (l : Line) (ls : List Line) → is_comment l.text ≡ false → comment_from k at (l ∷ ls) ≡ comment_from k (at + l.size) ls
unfolding comment_from
from_pass k at l ls p = rw (p, comment_from)

from_later : (k at : ℕ) (l : Line) (ls : List Line) → is_comment l.text ≡ true → 1 < k → comment_from k at (l ∷ ls) ≡ comment_from (k - 1) (at + l.size) ls
unfolding comment_from
from_later k at l ls p h = rw (p, comment_from) (rw (lt-ltb 1 k h))

from_this : (at : ℕ) (l : Line) (ls : List Line) → is_comment l.text ≡ true
    → comment_from 1 at (l ∷ ls) ≡ record { refusal = 0; value = record { start = at; len = length l.text } }
unfolding comment_from
from_this at l ls p = rw (p, comment_from)

from_zero : (at : ℕ) (l : Line) (ls : List Line) → is_comment l.text ≡ true → comment_from 0 at (l ∷ ls) ≡ no_comment
unfolding comment_from
from_zero at l ls p = rw (p, comment_from)

-- one comment ahead of the others
later : (f : List ℕ) (k : ℕ) (t : Text) (cs : List Text) (a : Answer Part) → 1 < k → ShowsLine f (k - 1) cs a → ShowsLine f k (t ∷ cs) a
later f k t cs a h s = record {
  shown = λ u.
      let (z, b) = s.shown (omega arith, omega arith) in
      let e : k - 1 ≡ suc (k - 1 - 1) = omega arith in
      (z, b ∙ ap (λ (n : ℕ). get_or (t ∷ cs) n []) (sym e));
  none = λ n. s.none (λ q. n (omega arith, omega arith));
}

this : (f : List ℕ) (at : ℕ) (t : Text) (cs : List Text) → take (length t) (drop at f) ≡ t
    → ShowsLine f 1 (t ∷ cs) (record { refusal = 0; value = record { start = at; len = length t } })
this f at t cs b = record { shown = λ u. (refl, b); none = λ n. absurd (n (omega arith, omega arith)) }

zeroth : (f : List ℕ) (cs : List Text) → ShowsLine f 0 cs no_comment
zeroth f cs = record { shown = λ u. absurd (omega (arith, u)); none = λ n. refl }

from_shows : (f : List ℕ) (ls : List Line) (at k : ℕ) → lines (drop at f) ≡ ls → ShowsLine f k (comments_in (map text_of ls)) (comment_from k at ls)
from_shows f [] at k e =
    subst (ShowsLine f k (comments_in [])) (sym (from_none k at))
    (subst (λ (cs : List Text). ShowsLine f k cs no_comment) (sym comments_none)
    (record { shown = λ u. absurd (omega (arith, u)); none = λ n. refl }))
from_shows f (l ∷ ls) at k e = go (is_comment l.text) refl k (λ n. from_shows f ls (at + l.size) n w.behind)
  where
    w : Placed f at l ls
    w = placed f at l ls e

    cs : List Text
    cs = comments_in (map text_of ls)

    Behind : Type 0
    Behind = (n : ℕ) → ShowsLine f n cs (comment_from n (at + l.size) ls)

    comment : is_comment l.text ≡ true → (k : ℕ) → Dec (1 < k) → Behind → ShowsLine f k (l.text ∷ cs) (comment_from k at (l ∷ ls))
    comment p k (yes h) ih = subst (ShowsLine f k (l.text ∷ cs)) (sym (from_later k at l ls p h)) (later f k l.text cs _ h (ih (k - 1)))
    comment p zero (no h) ih = subst (ShowsLine f 0 (l.text ∷ cs)) (sym (from_zero at l ls p)) (zeroth f (l.text ∷ cs))
    comment p (suc zero) (no h) ih = subst (ShowsLine f 1 (l.text ∷ cs)) (sym (from_this at l ls p)) (this f at l.text cs w.bytes)
    comment p (suc (suc k)) (no h) ih = absurd (h (omega arith))

    go : (c : Bool) → is_comment l.text ≡ c → (k : ℕ) → Behind → ShowsLine f k (comments_in (map text_of (l ∷ ls))) (comment_from k at (l ∷ ls))
    go false p k ih =
        subst (ShowsLine f k (comments_in (map text_of (l ∷ ls)))) (sym (from_pass k at l ls p))
        (subst (λ (x : List Text). ShowsLine f k x (comment_from k (at + l.size) ls)) (sym (comments_no l.text (map text_of ls) p)) (ih k))
    go true p k ih =
        subst (λ (x : List Text). ShowsLine f k x (comment_from k at (l ∷ ls))) (sym (comments_yes l.text (map text_of ls) p)) (comment p k (dec_lt 1 k) ih)

-- ---- behind the passed lines there is none
lists_quiet : (h : Heading) (ts : List Text) (es : List Named) → Lists h ts es → comments_in ts ≡ []
lists_quiet h [] es lists_none = comments_none
lists_quiet h (t ∷ ts) es (lists_blank b l) =
    comments_no t ts
    (not_comment h.kind h.gauges h.cases t skip_entry ((blank_line h.kind h.gauges h.cases t).1 b)
    (λ x q. clash cc))
    ∙ lists_quiet h ts es l
lists_quiet h (t ∷ ts) es (lists_entry {es = fs} {g} {c} {v} i l) =
    comments_no t ts
    (not_comment h.kind h.gauges h.cases t (Entry (record { 0 = g }) (record { 0 = c }) v)
    ((entry_line_lem h.kind h.gauges h.cases t (record { 0 = g }) (record { 0 = c }) v).1 i)
    (λ x q. clash cc))
    ∙ lists_quiet h ts fs l

comments_front : (ts us : List Text) → comments_in us ≡ [] → comments_in (ts ++ us) ≡ comments_in ts
comments_front [] us e = e ∙ sym comments_none
comments_front (t ∷ ts) us e = go (is_comment t) refl (comments_front ts us e)
  where
    go : (c : Bool) → is_comment t ≡ c → comments_in (ts ++ us) ≡ comments_in ts → comments_in (t ∷ (ts ++ us)) ≡ comments_in (t ∷ ts)
    go true p ih = comments_yes t (ts ++ us) p ∙ ap (λ (x : List Text). t ∷ x) ih ∙ sym (comments_yes t ts p)
    go false p ih = comments_no t (ts ++ us) p ∙ ih ∙ sym (comments_no t ts p)

-- an accepted file, from the line behind its first
found_in_lem : (f : List ℕ) (k : ℕ) → (read_recorded true f).refusal ≡ 0 → (l : Line) (ls : List Line) → lines f ≡ l ∷ ls
    → comment_at f k ≡ comment_from k l.size ls
unfolding comment_at
found_in_lem f k z l ls e = rw (eq-eqb (read_recorded true f).refusal 0 z) (ap (comment_lines k) e)

-- "Comment line k (from 1) is shown": in a legal file the k-th of the `%` lines ahead of the size line
pub comment_shown : {f : List ℕ} {h : Heading} {es : List Named} (l : LegalFile true f h es) (k : ℕ) → ShowsLine f k (comments_in l.passed) (comment_at f k)
comment_shown {f} {h} {es} l k =
    let o = l.sized.opened in
    let ts = l.passed ++ l.sized.size ∷ l.body in
    let c = cons (lines f) o.first ts (lines_only f (o.first ∷ ts) o.lines_are) in
    let q : comments_in (l.sized.size ∷ l.body) ≡ [] =
    comments_no l.sized.size l.body l.sized.is_size.no_comment ∙ lists_quiet h l.body es l.lists in
    let d : comments_in (map text_of c.back) ≡ comments_in l.passed =
    ap comments_in c.back_is ∙ comments_front l.passed (l.sized.size ∷ l.body) q in
    let s = from_shows f c.back c.line.size k (front_of f c.line c.back c.whole).1 in
    subst (ShowsLine f k (comments_in l.passed)) (sym (found_in_lem f k (legal_accepted l) c.line c.back c.whole))
    (subst (λ (x : List Text). ShowsLine f k x (comment_from k c.line.size c.back)) d s)
