-- `recorded::same_parts` meets its contract: the derived comparison goes by every part.
use Rattle.std.proofs.Common.{rules}
use Rattle.std.specs.Cmp.Rules.{signed_items}
use Rattle.recorded.proofs.same_parts.Goals as goal

pub returns : goal.returns
returns c = let d = signed_items c.args.a.readings c.args.b.readings in search rules
