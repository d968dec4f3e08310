-- Two paused values that are not different are equal (`value_settled`): each of their fields is decided (`settled`). That a contract leaves one answer goes
-- by it, here (Readings.antt) and in the crates above.
use mathlib.Core.Path.{◌≡◌, refl, sym, ap, ap₂, ◌∙◌}
use mathlib.Core.Bool.{Bool, true, false, cond}
use mathlib.Core.List.{List, [], ◌∷◌, List-discrete}
use Prim.Native.Nat.{ℕ}
use native.Mathlib.Decide.{ℕ_discrete}
use lib.Dec.{eqb}
use lib.ListN.{get_or}
use Rattle.table.specs.declared.Table.{Table}
use Rattle.rules.specs.Machine.{Phase, Down, Handed, Back, Ended}
use Rattle.runs.specs.Paused.{Value}

-- what is decided of two things that are not different is the same
pub settled : {A B : Type 0} {a b : A} → ¬ ¬ (a ≡ b) → (f : A → B) → Dec (f a ≡ f b) → f a ≡ f b
settled n f (yes e) = e
settled n f (no e) = absurd (n (λ d. e (ap f d)))

-- ---- a phase from its kind and its number, a flag from 0 or 1
stage : Phase → ℕ
stage Down = 0
stage Handed = 1
stage (Back g) = 2
stage Ended = 3

from : Phase → ℕ
from Down = 0
from Handed = 0
from (Back g) = g
from Ended = 0

phase_of : ℕ → ℕ → Phase
phase_of k g = get_or (Down ∷ Handed ∷ Back g ∷ Ended ∷ []) k Ended

phase_of_lem : (f : Phase) → phase_of (stage f) (from f) ≡ f
unfolding phase_of stage from
phase_of_lem Down = refl
phase_of_lem Handed = refl
phase_of_lem (Back g) = refl
phase_of_lem Ended = refl

flag : Bool → ℕ
flag b = cond b 1 0

flag_of : ℕ → Bool
flag_of k = eqb k 1

flag_of_lem : (b : Bool) → flag_of (flag b) ≡ b
unfolding flag_of flag
flag_of_lem true = refl
flag_of_lem false = refl

-- ---- records, field by field
table_same : (g h c d : ℕ) (r q : List ℕ) → g ≡ h → c ≡ d → r ≡ q
    → ◌≡◌ {A = Table} (record { gauges = g; cases = c; rows = r }) (record { gauges = h; cases = d; rows = q })
table_same g h c d r q a b e = rw (a, b, e)

value_same : (t u : Table) (k l p q : List ℕ) (n m : ℕ) (f e : Phase) (o z : Bool) → t ≡ u → k ≡ l → p ≡ q → n ≡ m → f ≡ e → o ≡ z
    → ◌≡◌ {A = Value} (record { table = t; order = k; picks = p; count = n; phase = f; omit = o })
    (record { table = u; order = l; picks = q; count = m; phase = e; omit = z })
value_same t u k l p q n m f e o z a i b c d h = rw (a, i, b, c, d, h)

pub value_settled : (v w : Value) → ¬ ¬ (v ≡ w) → v ≡ w
value_settled v w n =
    value_same v.table w.table v.order w.order v.picks w.picks v.count w.count v.phase w.phase v.omit w.omit
    (table_same v.table.gauges w.table.gauges v.table.cases w.table.cases v.table.rows w.table.rows
    (number (λ x. x.table.gauges)) (number (λ x. x.table.cases)) (list (λ x. x.table.rows)))
    (list (λ x. x.order)) (list (λ x. x.picks)) (number (λ x. x.count))
    (sym (phase_of_lem v.phase) ∙ ap₂ phase_of (number (λ x. stage x.phase)) (number (λ x. from x.phase)) ∙ phase_of_lem w.phase)
    (sym (flag_of_lem v.omit) ∙ ap flag_of (number (λ x. flag x.omit)) ∙ flag_of_lem w.omit)
  where
    number : (f : Value → ℕ) → f v ≡ f w
    number f = settled n f (ℕ_discrete (f v) (f w))

    list : (f : Value → List ℕ) → f v ≡ f w
    list f = settled n f (List-discrete ℕ_discrete (f v) (f w))
