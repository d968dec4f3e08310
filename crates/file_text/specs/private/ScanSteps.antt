-- What the private steps promise: the end of line at a place, and one field of a line from a place on.
-- `span_at` and `fields` are what the public functions promise; nothing outside this crate rests on this file.
use Rattle.std.specs.Prelude.{ℕ, ◌≤◌, ◌≡◌, List, [], ◌∷◌, cond, length, drop, eqb}
use Rattle.std.proofs.Math.Option.{Option, some, none}
use Rattle.file_text.specs.Lines.{at_crlf}
use Rattle.file_text.specs.Fields.{scan, close}
use Rattle.file_text.specs.declared.Field.{Field}
use Rattle.file_text.specs.declared.Field.TheVariants.{Number, End, Bad}

-- the bytes of the end of line that comes next: 1 for LF, 2 for CR LF, 0 for none
abbrev pub end_size : List ℕ → ℕ
end_size [] = 0
end_size (b ∷ s) = cond (eqb b 10) 1 (cond (at_crlf b s) 2 0)

-- the fields of what is left of the line from the place at on
abbrev pub rest : List ℕ → ℕ → Option (List ℕ)
rest l at = scan 0 0 (drop at l)

-- from at on comes the field v, and the rest of the line from next on
pub record Found (l : List ℕ) (at v next : ℕ) : Type 0 where
  pub equation : rest l at ≡ close 1 v (rest l next)
  pub inside : next ≤ length l

-- what each answer says of the line from at on
abbrev pub FieldSays : List ℕ → ℕ → Field → Type 0
FieldSays l at End = rest l at ≡ some []
FieldSays l at (Number v next) = Found l at v next
FieldSays l at Bad = rest l at ≡ none

pub record FieldAt (l : List ℕ) (at : ℕ) (x : Field) : Type 0 where
  pub says : FieldSays l at x
