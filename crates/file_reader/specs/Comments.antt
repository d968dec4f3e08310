-- Comment lines (01, "The file"): "Comment line k (from 1) is shown as a part of the caller's file, without its end":
-- parts of a file, what it is to show one, and where the k-th `%` line after the first is. The banner is no comment,
-- and an accepted file has no `%` line behind its size line (refusal 6; `late_comment` in proofs/Late.antt), so these
-- are the comment lines. What comment lookup promises is `CommentOfFile` in Promises.antt.
use Rattle.std.specs.Prelude.{ℕ, ◌+◌, ◌-◌, ◌≡◌, List, [], ◌∷◌, true, false, cond, length, take, drop, ltb, eqb, Result, Ok, Err}
use Rattle.std.specs.Borrow.{Bor}
use Rattle.refusals.specs.Answers.{Answer, refused}
use Rattle.refusals.specs.declared.Refusal.{Refusal}
use Rattle.refusals.specs.declared.Refusal.TheVariants.{NoSuchComment}
use Rattle.file_text.specs.Lines.{Line}
use Rattle.file_kinds.specs.Kinds.{is_comment}
use Rattle.file_reader.specs.declared.Found.{Found}

-- a part of a file: its first byte's place, and its length
pub record Part : Type 0 where
  pub start : ℕ
  pub len : ℕ

-- the slice r is the part p of the lent file: not a copy, but the same memory from the part's start on, for the
-- part's length
pub record Shows (file r : Bor (List ℕ)) (p : Part) : Type 0 where
  pub block : r.ref_ptr.0 ≡ file.ref_ptr.0
  pub offset : r.ref_ptr.1 ≡ file.ref_ptr.1 + p.start
  pub bytes : r.now ≡ take p.len (drop p.start file.now)

-- what is given beside a refusal, an empty part; a comment is never empty, for it starts with `%`
abbrev pub no_part : Part
no_part = record { start = 0; len = 0 }

-- how the code's answer reads
abbrev pub found : Result Found Refusal → Answer Part
found (Ok place) = record { refusal = 0; value = record { start = place.start; len = place.len } }
found (Err why) = refused why no_part

abbrev pub no_comment : Answer Part
no_comment = refused NoSuchComment no_part

-- the k-th comment line among the lines ls, the first of which starts at the place at: "17 k is 0 or above the number
-- of comments"
unfoldable pub comment_from : ℕ → ℕ → List Line → Answer Part
comment_from k at [] = no_comment
comment_from k at (l ∷ ls) =
    elim (is_comment l.text) [
      | true ↦
          elim (ltb 1 k) [
            | true ↦ comment_from (k - 1) (at + l.size) ls
            | false ↦ cond (eqb k 1) (found (Ok (record { start = at; len = length l.text }))) no_comment
          ]
      | false ↦ comment_from k (at + l.size) ls
    ]

-- the search starts behind the first line
abbrev pub comment_lines : ℕ → List Line → Answer Part
comment_lines k [] = no_comment
comment_lines k (l ∷ ls) = comment_from k l.size ls
