-- Parts of a text that are written.
use Rattle.std.proofs.Common.{◌≡◌, ℕ, ◌+◌, ◌≤◌, List, ◌++◌, length, take, drop}
use Rattle.std.proofs.Common.{Option, Result, Ok, Err, sym, ap, ◌∙◌, subst, arith}
use Rattle.std.specs.Prelude.{OnOk, OnErr}
use Rattle.std.specs.Io.KnownBytes.{Appends}
use Rattle.std.proofs.lemmas.List.{length-take, take-append-drop, take-append-le}
use Rattle.std.proofs.Math.Seq.{take-append_seam, take-append-add}
use Rattle.sv_base.specs.Streams.{AppendsPart}
use Rattle.sv_base.proofs.Shared.{Appends-then}

-- a fact stands whatever the value is
pub on_ok : {T E : Type 0} {P : Type 0} (r : Result T E) → P → OnOk r P
on_ok (Ok value) p = p
on_ok (Err e) p = tt

-- a fact stands whatever the error is
pub on_err : {T E : Type 0} {P : Type 0} (r : Result T E) → P → OnErr r P
on_err (Ok value) p = tt
on_err (Err e) p = p

-- a part of some text after text that is written is a part of both
pub part_after : (old now later : Option (List ℕ)) (a b : List ℕ) → Appends old now a
    → AppendsPart now later b → AppendsPart old later (a ++ b)
part_after old now later a b written (count, part) = (
  length a + count,
  subst (Appends old later) (sym (take-append-add a b count))
      (Appends-then old now later a (take count b) written part),
)

-- a part of some text is a part of that text and more
pub part_more : (old now : Option (List ℕ)) (a b : List ℕ) → AppendsPart old now a
    → AppendsPart old now (a ++ b)
part_more old now a b (count, part) =
    let n = length (take count a) in
    let short : n ≤ length a = omega (arith, length-take count a) in
    let same : take n a ≡ take count a = ap (take n) (sym (take-append-drop count a)) ∙
    take-append_seam (take count a) (drop count a) in
    (n, subst (Appends old now) (sym (take-append-le n a b short ∙ same)) part)
