-- Reads one after the other: what they take from the input (`consumes_both`), and where it lies (`read_behind`).
use Rattle.std.proofs.Common.{◌≡◌, ℕ, ◌+◌, ◌≤◌, List, ◌++◌, Option, None, Some, sym, ap, ◌∙◌, length, take, append_assoc, le_refl, drop_at, length-take-le}
use mathlib.Core.Path.{ap₂}
use lib.Seq.{take-add, take-append-le}
use borrow.Rule.Slice.PartMut.{put_mid, post_of}
use Rattle.std.proofs.lemmas.Slice.{take-put_mid_below}
use Rattle.std.specs.Io.KnownBytes.{Consumes}

pub consumes_both : (a b c : Option (List ℕ)) (bs cs : List ℕ) → Consumes a b bs → Consumes b c cs → Consumes a c (bs ++ cs)
consumes_both None b c bs cs p q = tt
consumes_both (Some x) None c bs cs p q = absurd p
consumes_both (Some x) (Some y) None bs cs p q = absurd q
consumes_both (Some x) (Some y) (Some z) bs cs p q = p ∙ ap (λ l. bs ++ l) q ∙ sym (append_assoc bs cs z)

-- n bytes read into the part of a buffer behind its first `have` bytes come behind these
pub read_behind : (have room n : ℕ) (old part : List ℕ) → have ≤ length old → n ≤ length part → take (have + n) (put_mid have room old part) ≡ take have old ++ take n part
read_behind have room n old part w f =
    take-add have n (put_mid have room old part)
    ∙ ap₂ (λ x y. x ++ y) (take-put_mid_below have room old part have (le_refl have) w)
    (ap (take n) (drop_at (take have old) (part ++ post_of have room old) have (length-take-le have old w)) ∙ take-append-le n part (post_of have room old) f)
