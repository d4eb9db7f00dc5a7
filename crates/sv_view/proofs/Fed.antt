-- A piece of a file that a decoder takes.
use Rattle.std.proofs.Common.{◌≡◌, ℕ, ◌+◌, ◌^◌, ◌<◌, ◌≤◌, true, false, List, ◌++◌, length, take}
use Rattle.std.proofs.Common.{Option, Result, Ok, Err, refl, ap, subst, arith}
use Rattle.std.specs.Prelude.{is_ok, is_err, OnOk}
use Rattle.std.specs.Io.KnownBytes.{Consumes, IsAtEnd}
use Rattle.std.proofs.lemmas.List.{length-take}
use Rattle.sv_prim.specs.Text.{AreBytes}
use Rattle.sv_stream.specs.declared.seen.Seen.{Seen}
use Rattle.sv_stream.specs.Decoding.{Decoding, StandsFor, pushed}
use Rattle.sv_view.specs.Scan.{IsFed}

-- a result that is no error is one
pub taken_up : {T E : Type 0} (result : Result T E) → is_err result ≡ false → is_ok result ≡ true
taken_up (Ok x) e = refl
taken_up (Err x) e = absurd cc

pub on_ok : {T E : Type 0} {P : Type 0} (result : Result T E) → is_ok result ≡ true → OnOk result P → P
on_ok (Ok x) e p = p
on_ok (Err x) e p = absurd cc

-- a decoder takes a piece
pub fed_by : (left_before left : Option (List ℕ)) (old new : Decoding) (total count : ℕ)
    (buf piece : List ℕ)
    → piece ≡ take count buf → AreBytes piece → count ≤ length buf → total + count ≤ 2 ^ 33
    → Consumes left_before left (take count buf) → {T E : Type 0} (pushing : Result T E) → is_ok
    pushing ≡ true
    → OnOk pushing ((input : List ℕ) → (given : List Seen) → StandsFor old input given →
    StandsFor new (input ++ piece) given)
    → OnOk pushing (pushed new ≡ pushed old + length piece)
    → (count < length buf → IsAtEnd left) → IsFed left_before left old new total count buf
fed_by left_before left old new total count buf piece front bytes few within read pushing ok stands
    more ended =
    let long : length piece ≡ count = omega (arith, ap length front, length-take count buf, few) in
    record {
      few = few;
      within = within;
      bytes = subst AreBytes front bytes;
      read = read;
      stands = λ input given s. subst (λ (p : List ℕ). StandsFor new (input ++ p) given) front
          (on_ok pushing ok stands input given s);
      pushed_more = omega (arith, on_ok pushing ok more, long);
      ended = ended;
    }
