-- Known lists and a known growth under another preference than 1, 2, 3 (02, R-12: ""Lowest", "lower-numbered" and
-- "above" in the rules for candidates and moves, ties in a pick sequence, and the listing order all go by place in
-- it"), by hand from K2 and K3 of KnownTables.antt: K2 with gauge 3 trusted most, K3 with its twins, gauges 1 and 2,
-- in the other order, and 3:2 of K8 grown with gauge 3 trusted most. Preferences are given by gauge number, as a user
-- writes them. All are proved in proofs/Preferring.antt.
use Rattle.std.specs.Prelude.{◌≡◌, List, [], ◌∷◌, map, ℕ, suc, ◌-◌}
use Rattle.table.specs.declared.Table.{Table}
use Rattle.table.specs.Tables.{table_rows}
use Rattle.lists.specs.Arrangements.{IsArrangement}
use Rattle.lists.specs.Preferred.{pick_seq_by}
use Rattle.lists.specs.Lists.{gauge_side, list_key, PreferredList}
use Rattle.lists.specs.Growing.{FirstContaining}
use Rattle.known.specs.KnownTables.{pairs, Entry, entry, k2, k3}

-- a preference by row index: gauge g is index g - 1
abbrev pub indices : List ℕ → List ℕ
indices order = map (λ g. g - 1) order

-- under this preference the gauge run of the table t lists these sets, with these pick sequences, in this order
pub record ListsBy (t : Table) (order : List ℕ) (es : List Entry) : Type 0 where
  pub arranged : IsArrangement t.gauges (indices order)
  pub list : PreferredList t (gauge_side t) (indices order) (map (λ (e : Entry). e.set) es)
  pub picks : map (λ (e : Entry). map suc (pick_seq_by (indices order) e.set)) es ≡ map (λ (e : Entry). e.picks) es

pub record PreferredKnown : Type 0 where
  -- K2 under 3, 1, 2: picks (3,1) (3,2) (1,3) (1,2) (2,3) (2,1)
  pub k2_by : ListsBy k2 (3 ∷ 1 ∷ 2 ∷ [])
      (entry ((2 ∷ []) ∷ [] ∷ (1 ∷ 2 ∷ []) ∷ []) (3 ∷ 1 ∷ []) 3
      ∷ entry ([] ∷ (1 ∷ []) ∷ (1 ∷ 2 ∷ []) ∷ []) (3 ∷ 2 ∷ []) 3
      ∷ entry ((2 ∷ 3 ∷ []) ∷ [] ∷ (2 ∷ []) ∷ []) (1 ∷ 3 ∷ []) 3
      ∷ entry ((2 ∷ 3 ∷ []) ∷ (3 ∷ []) ∷ [] ∷ []) (1 ∷ 2 ∷ []) 3
      ∷ entry ([] ∷ (1 ∷ 3 ∷ []) ∷ (1 ∷ []) ∷ []) (2 ∷ 3 ∷ []) 3
      ∷ entry ((3 ∷ []) ∷ (1 ∷ 3 ∷ []) ∷ [] ∷ []) (2 ∷ 1 ∷ []) 3
      ∷ [])
  -- K3 under 2, 1, 3: of the twins gauge 2 is picked first, picks (2,1,3) and (3,2,1)
  pub k3_by : ListsBy k3 (2 ∷ 1 ∷ 3 ∷ [])
      (entry ((1 ∷ 2 ∷ []) ∷ (1 ∷ 2 ∷ []) ∷ (2 ∷ []) ∷ []) (2 ∷ 1 ∷ 3 ∷ []) 5
      ∷ entry ((2 ∷ []) ∷ (2 ∷ []) ∷ (2 ∷ 3 ∷ []) ∷ []) (3 ∷ 2 ∷ 1 ∷ []) 4
      ∷ [])
  -- 3:2 in K2 grows, under 3, 1, 2, to 1:2, 3:1, 3:2
  pub grown_by :
      FirstContaining (table_rows k2) (list_key (gauge_side k2) (indices (3 ∷ 1 ∷ 2 ∷ []))) (pairs ([] ∷ [] ∷ (2 ∷ []) ∷ []))
      (pairs ((2 ∷ []) ∷ [] ∷ (1 ∷ 2 ∷ []) ∷ []))
