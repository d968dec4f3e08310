-- What a reader finds in the claims of R-2, sentence by sentence: which pairs go with which (`holds_exactly`), which ladders belong to some irreducible cover
-- (`belongs_exactly`), and a table without pairs (`none_without_pairs`). That no ladder of an irreducible cover can be dropped: `own_pair`, Covering.antt.
use mathlib.Core.Path.{◌≡◌, refl}
use mathlib.Core.Logic.{◌↔◌}
use mathlib.Core.List.{List, [], ◌∷◌, Memᴰ}
use Prim.Native.Nat.{ℕ}
use Rattle.table.specs.Pairs.{Has}
use Rattle.table.specs.Chains.{IsMaximal}
use Rattle.conflicts.specs.Conflicts.{Conflict, Essential}
use Rattle.conflicts.specs.Covers.{Irreducible, ConflictClaims}

-- "every ladder with pair p holds pair q exactly when p's rivals include q's", for p = g:c and q = h:d
pub holds_exactly : (r : List ℕ) → ConflictClaims r → (g c h d : ℕ) → Has r g c → Has r h d
    → ((m : List ℕ) → IsMaximal r m → Has m g c → Has m h d) ↔ ((k e : ℕ) → Conflict r h d k e → Conflict r g c k e)
holds_exactly r a g c h d p q = a.holds g c h d p q

-- "a ladder belongs to some irreducible cover exactly when it holds a deciding pair"
pub belongs_exactly : (r : List ℕ) → ConflictClaims r → (m : List ℕ) → IsMaximal r m
    → ((xs : List (List ℕ)) × Irreducible r xs × Memᴰ m xs) ↔ ((g : ℕ) × (c : ℕ) × Has m g c × Essential r g c)
belongs_exactly r a m x = (
  λ w. let h = (a.covers m x).0 (record { members = w.0; irreducible = w.1; belongs = w.2 }) in (h.gauge, h.case, h.held, h.essential),
  λ w. let i = (a.covers m x).1 (record { gauge = w.0; case = w.1; held = w.2; essential = w.3 }) in (i.members, i.irreducible, i.belongs),
)

-- of a table without pairs the one irreducible cover is the empty one
pub none_without_pairs : (r : List ℕ) → ConflictClaims r → ((g c : ℕ) → ¬ Has r g c) → (xs : List (List ℕ)) → Irreducible r xs → xs ≡ []
none_without_pairs r a f [] i = refl
none_without_pairs r a f (x ∷ xs) i = absurd (a.none f x (record { members = x ∷ xs; irreducible = i; belongs = Memᴰ.head refl }))
