-- What the loop that adds a number to a buffer keeps.
use Rattle.std.proofs.Common.{◌≡◌, ℕ, zero, suc, ◌+◌, ◌*◌, ◌/◌, ◌%◌, ◌^◌, ◌<◌, ◌≤◌, List, [], ◌∷◌}
use Rattle.std.proofs.Common.{◌++◌, length, refl, sym, ap, ◌∙◌, append_assoc, arith}
use Rattle.std.proofs.lemmas.List.{length-append}
use Rattle.std.proofs.lemmas.Nat.{pow-add}
use Rattle.sv_prim.specs.Number.{groups_of, number_spelling}
use Rattle.sv_prim.proofs.Spellings.{groups_of-last, groups_of-next}

-- so many more groups can come, and with those of the rest the buffer has gained the number's
-- spelling
pub record Progress (number : ℕ) (old now : List ℕ) (rest : ℕ) : Type 0 where
  pub more : ℕ
  pub room : length now + more + 1 ≤ 256
  pub below : rest < 2 ^ (7 * more + 4)
  pub spelled : now ++ groups_of more rest ≡ old ++ number_spelling number

pub begins : (number : ℕ) (old : List ℕ) → length old + 5 ≤ 256 → number < 2 ^ 32 →
    Progress number old old number
begins number old room fits =
    record { more = 4; room = omega arith; below = omega arith; spelled = refl }

goes_on_by : (number : ℕ) (old now : List ℕ) (rest more : ℕ) → length now + more + 1 ≤ 256 →
    rest < 2 ^ (7 * more + 4) → now ++ groups_of more rest ≡ old ++ number_spelling number →
    128 ≤ rest
    → Progress number old (now ++ (rest % 128 + 128) ∷ []) (rest / 128)
goes_on_by number old now rest zero room below spelled high = absurd (omega arith)
goes_on_by number old now rest (suc more) room below spelled high =
    let step : 2 ^ (7 * suc more + 4) ≡ 128 * 2 ^ (7 * more + 4) =
    ap (λ (k : ℕ). 2 ^ k) (omega arith) ∙ pow-add 2 7 (7 * more + 4) in
    let next = groups_of-next more rest high in
    record {
      more = more;
      room = omega (arith, length-append now ((rest % 128 + 128) ∷ []));
      below = omega (arith, step);
      spelled =
          append_assoc now ((rest % 128 + 128) ∷ []) (groups_of more (rest / 128))
          ∙ ap (λ (k : List ℕ). now ++ k) (sym next) ∙ spelled;
    }

-- one more group
pub goes_on : (number : ℕ) (old now : List ℕ) (rest : ℕ) → Progress number old now rest →
    128 ≤ rest → Progress number old (now ++ (rest % 128 + 128) ∷ []) (rest / 128)
goes_on number old now rest p high =
    goes_on_by number old now rest p.more p.room p.below p.spelled high

-- the last group
pub ends : (number : ℕ) (old now : List ℕ) (rest : ℕ) → Progress number old now rest → rest < 128 →
    now ++ rest ∷ [] ≡ old ++ number_spelling number
ends number old now rest p low =
    ap (λ (k : List ℕ). now ++ k) (sym (groups_of-last p.more rest low)) ∙ p.spelled
