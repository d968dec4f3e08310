-- `file_reader::comment` meets its contract: the part that `comment_at` gives lies in the file, and its bytes are those that are shown.
use native.Mathlib.Omega.{arith}
use Rattle.file_reader.proofs.Lookup.{part_inside}
use Rattle.file_reader.proofs.Promising.{comment_is_found}
use Rattle.file_reader.proofs.comment.Goals as goal

-- what is found lies in the file
pub overflow_add-result : goal.overflow_add-result
overflow_add-result c =
    omega (arith, part_inside c.args.file.now c.args.k c.comment_at.result (comment_is_found c.args.file.now c.args.k _ c.comment_at.ensures) c.in-Ok.is)

pub slice_bounds-result-end-2 : goal.slice_bounds-result-end-2
slice_bounds-result-end-2 c =
    omega (arith, part_inside c.args.file.now c.args.k c.comment_at.result (comment_is_found c.args.file.now c.args.k _ c.comment_at.ensures) c.in-Ok.is)
