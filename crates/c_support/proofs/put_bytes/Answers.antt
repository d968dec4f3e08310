-- `c_support::put_bytes` meets its contract: the bytes are stored over the front.
use Rattle.std.proofs.Common.{◌≡◌, ◌∙◌, sym, length, length-take-le, rules}
use Rattle.c_support.proofs.Texts.{put_front}
use Rattle.c_support.proofs.put_bytes.Goals as goal

pub copy_from_slice-requires : goal.copy_from_slice-requires
copy_from_slice-requires c = let size : length c.args.bytes ≡ 80 = search rules in length-take-le 80 _ c.requires ∙ sym size

pub returns : goal.returns
returns c = put_front c.args.bytes (search rules) c.requires c.copy_from_slice.ensures.after
