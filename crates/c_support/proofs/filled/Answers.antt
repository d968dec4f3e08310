-- `c_support::filled` meets its contract: each byte is that of the text, or a zero after it.
use Rattle.std.proofs.Common.{rules}
use Rattle.sets.proofs.Tabulated.{from_fn_tabulated}
use Rattle.c_support.proofs.Texts.{text_is}
use Rattle.c_support.proofs.filled.Goals as goal

pub returns : goal.returns
returns c = text_is c.args.s.now _ (from_fn_tabulated _ _ _ (λ i y q l k. search rules) c.from_fn-bytes.ensures.items)
