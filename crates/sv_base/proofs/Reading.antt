-- Bytes read piece by piece.
use Rattle.std.proofs.Common.{◌≡◌, ℕ, zero, suc, ◌+◌, ◌≤◌, List, [], ◌∷◌, ◌++◌, length, take, drop}
use Rattle.std.proofs.Common.{Option, Some, None, refl, sym, subst, ap, ◌∙◌, append_assoc, arith}
use Rattle.std.proofs.Common.{length-append}
use Rattle.std.specs.Prelude.{min, ◌<◌, Bool, true, false, Result, Ok, Err, if◌then◌else◌}
use Rattle.std.proofs.lemmas.List.{drop-drop, take_at, length-drop, length-take, take-append-drop}
use Rattle.std.proofs.lemmas.List.{nil_from_length}
use Rattle.std.specs.Io.KnownBytes.{Consumes, Keeps, ReadConsumes}
use Rattle.sv_base.specs.Streams.{ConsumesFewer, ConsumesMore}
use borrow.Rule.Slice.PartMut.{put_mid}

-- a read copies a front of what is left
pub read_moves : (bytes rest copied tail : List ℕ) (at count size : ℕ) → rest ≡ drop at bytes
    → copied ≡ take count rest → count ≡ min (length rest) size → 0 < size
    → (drop at bytes ≡ take count (copied ++ tail) ++ drop (at + count) bytes) ×
    (count ≡ 0 → 0 < length (copied ++ tail) → drop (at + count) bytes ≡ [])
read_moves bytes rest copied tail at count size left copy least some =
    let len : length copied ≡ count = omega (arith, ap length copy, length-take count rest) in
    let front : take count (copied ++ tail) ≡ copied = take_at copied tail count len in
    let behind : drop count rest ≡ drop (at + count) bytes = ap (drop count) left ∙ drop-drop count
    at bytes in (
      sym left ∙ sym (take-append-drop count rest) ∙ ap (λ (x : List ℕ). take count rest ++ x)
          behind ∙ ap (λ (x : List ℕ). x ++ drop (at + count) bytes) (sym (front ∙ copy)),
      λ none more. sym behind ∙ nil_from_length (drop count rest)
          (omega (arith, length-drop count rest)),
    )

pub Consumes-then : (a b c : Option (List ℕ)) (x y : List ℕ) → Consumes a b x → Consumes b c y
    → Consumes a c (x ++ y)
Consumes-then None b c x y p q = tt
Consumes-then (Some s) None c x y p q = absurd p
Consumes-then (Some s) (Some t) None x y p q = absurd q
Consumes-then (Some s) (Some t) (Some u) x y p q =
    p ∙ ap (λ (k : List ℕ). x ++ k) q ∙ sym (append_assoc x y u)

-- a failed read takes no byte
pub Consumes-kept : (a b c : Option (List ℕ)) (x : List ℕ) → Consumes a b x → Keeps b c
    → Consumes a c x
Consumes-kept None b c x p q = tt
Consumes-kept (Some s) None c x p q = absurd p
Consumes-kept (Some s) (Some t) None x p q = absurd q
Consumes-kept (Some s) (Some t) (Some u) x p q = p ∙ ap (λ (k : List ℕ). x ++ k) (sym q)

-- the bytes so far, and then those of one more read, all within the limit
pub ConsumesFewer-from : (a b c : Option (List ℕ)) (bytes buf : List ℕ) (count limit : ℕ)
    → Consumes a b bytes → Consumes b c (take count buf) → count ≤ length buf
    → length bytes + count < limit → ConsumesFewer a c limit
ConsumesFewer-from a b c bytes buf count limit p q within few = (
  bytes ++ take count buf,
  Consumes-then a b c bytes (take count buf) p q,
  omega
      (arith, length-append bytes (take count buf), length-take count buf),
)

-- the bytes so far, and then those of one more read
pub ConsumesMore-from : (a b c : Option (List ℕ)) (bytes buf : List ℕ) (count limit : ℕ)
    → Consumes a b bytes → Consumes b c (take count buf) → count ≤ length buf
    → limit < length bytes + count → ConsumesMore a c limit
ConsumesMore-from a b c bytes buf count limit p q within more = (
  bytes ++ take count buf,
  Consumes-then a b c bytes (take count buf) p q,
  omega
      (arith, length-append bytes (take count buf), length-take count buf),
)

-- behind a list, so many elements of the next
take-past : (xs ys : List ℕ) (n : ℕ) → take (length xs + n) (xs ++ ys) ≡ xs ++ take n ys
take-past [] ys n = let none : 0 + n ≡ n = omega arith in ap (λ (m : ℕ). take m ys) none
take-past (x ∷ xs) ys n =
    let next : suc (length xs) + n ≡ suc (length xs + n) = omega arith in ap
    (λ (m : ℕ). take m (x ∷ (xs ++ ys))) next ∙ ap (λ (zs : List ℕ). x ∷ zs) (take-past xs ys n)

take-front : (xs ys : List ℕ) (n : ℕ) → n ≤ length xs → take n (xs ++ ys) ≡ take n xs
take-front xs ys zero within = refl
take-front [] ys (suc n) within = absurd (omega (arith, within))
take-front (x ∷ xs) ys (suc n) within =
    ap (λ (zs : List ℕ). x ∷ zs) (take-front xs ys n (omega (arith, within)))

-- the front of a buffer is filled further
pub filled_further : (a b c : Option (List ℕ)) (buf piece : List ℕ) (filled size count : ℕ)
    → Consumes a b (take filled buf) → Consumes b c (take count piece) → filled ≤ length buf
    → count ≤ length piece
    → Consumes a c (take (filled + count) (put_mid filled size buf piece))
filled_further a b c buf piece filled size count p q within few =
    let behind = drop size (drop filled buf) in
    let long : length (take filled buf) ≡ filled = omega (arith, length-take filled buf, within) in
    let front : take (filled + count) (put_mid filled size buf piece) ≡ take filled buf ++ take
    count piece =
    ap (λ (n : ℕ). take (n + count) (put_mid filled size buf piece)) (sym long) ∙ take-past
    (take filled buf) (piece ++ behind) count ∙ ap (λ (zs : List ℕ). take filled buf ++ zs)
    (take-front piece behind count few) in
    subst (Consumes a c) (sym front) (Consumes-then a b c (take filled buf) (take count piece) p q)

-- a read of a file that was begun, or of none, copies a front of what is left
pub read_begun : (E : Type 0) (begun : Bool) (bytes rest copied tail : List ℕ) (at count size : ℕ) →
    rest ≡ drop at bytes → copied ≡ take count rest → count ≡ min (length rest) size → 0 < size
    → ReadConsumes {E = E} (if begun then Some (drop at bytes) else None)
    (if begun then Some (drop (at + count) bytes) else None) (Ok count) (copied ++ tail)
read_begun E true bytes rest copied tail at count size left copy least some =
    read_moves bytes rest copied tail at count size left copy least some
read_begun E false bytes rest copied tail at count size left copy least some = (tt, λ none room. tt)
