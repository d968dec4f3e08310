-- `c_orders::write_order` meets its contract: the promise of the table and the chains that the words read as.
use mathlib.Core.Logic.{inl, inr}
use Rattle.c_orders.proofs.Serving.{orders_short}
use Rattle.pair_orders.proofs.Orders.{order_claims}
use Rattle.c_orders.proofs.write_order.Goals as goal

pub returns-then-table-lt-TABLE : goal.returns-then-table-lt-TABLE
returns-then-table-lt-TABLE c =
    record {
      orders_words = orders_short _ _ _ _ _ (inl c.if-table-lt-TABLE.true);
      claims = order_claims;
    }

pub returns-then-chain-lt-CHAIN : goal.returns-then-chain-lt-CHAIN
returns-then-chain-lt-CHAIN c =
    record {
      orders_words = orders_short _ _ _ _ _ (inr (inl c.if-chain-lt-CHAIN.true));
      claims = order_claims;
    }

pub returns-then-ladder-lt-CHAIN : goal.returns-then-ladder-lt-CHAIN
returns-then-ladder-lt-CHAIN c =
    record {
      orders_words = orders_short _ _ _ _ _ (inr (inr (inl c.if-ladder-lt-CHAIN.true)));
      claims = order_claims;
    }

pub returns-then-count-lt-COUNT : goal.returns-then-count-lt-COUNT
returns-then-count-lt-COUNT c =
    record {
      orders_words = orders_short _ _ _ _ _ (inr (inr (inr c.if-count-lt-COUNT.true)));
      claims = order_claims;
    }
