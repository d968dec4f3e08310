-- The returns of the entry: a slice too short, a refusal, and an order whose number of pairs is put.
use mathlib.Core.Path.{refl}
use mathlib.Core.List.{List}
use Prim.Native.Nat.{ℕ}
use Rattle.c_orders.specs.Serving.{ShortOrder, OrdersWords}

pub orders_short : (w v u bytes count : List ℕ) → ShortOrder w v u count → OrdersWords w v u bytes count bytes count 100
orders_short w v u bytes count h = record { short = λ _. (refl, refl, refl); served = λ n. absurd (n h) }

-- the library answered a, and left the bytes; n is the answer's number
