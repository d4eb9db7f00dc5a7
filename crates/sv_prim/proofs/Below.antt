-- Bytes: parts of them are bytes, and those of a slice are.
use Rattle.std.proofs.Common.{ℕ, zero, suc, List, [], ◌∷◌, ◌++◌, get_or, take, drop, replicate}
use Rattle.std.proofs.Common.{Fits, w8, arith}
use Rattle.sv_prim.specs.Text.{AreBytes}

-- the bytes of a slice are bytes
pub are_bytes : (bytes : List ℕ) → ((i : ℕ) → Fits w8 (get_or bytes i 0)) → AreBytes bytes
are_bytes [] fit = tt
are_bytes (b ∷ bytes) fit = (omega (arith, fit 0), are_bytes bytes (λ i. fit (suc i)))

pub bytes_behind : (m : ℕ) (bytes : List ℕ) → AreBytes bytes → AreBytes (drop m bytes)
bytes_behind zero bytes are = are
bytes_behind (suc m) [] are = tt
bytes_behind (suc m) (b ∷ bytes) are = bytes_behind m bytes are.1

pub bytes_front : (m : ℕ) (bytes : List ℕ) → AreBytes bytes → AreBytes (take m bytes)
bytes_front zero bytes are = tt
bytes_front (suc m) [] are = tt
bytes_front (suc m) (b ∷ bytes) are = (are.0, bytes_front m bytes are.1)

pub bytes_both : (front rest : List ℕ) → AreBytes front → AreBytes rest → AreBytes (front ++ rest)
bytes_both [] rest p q = q
bytes_both (b ∷ front) rest p q = (p.0, bytes_both front rest p.1 q)

pub zeros : (count : ℕ) → AreBytes (replicate count 0)
zeros zero = tt
zeros (suc count) = (omega arith, zeros count)
