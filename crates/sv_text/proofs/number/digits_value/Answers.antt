use Rattle.std.proofs.Common.{◌≡◌, ◌+◌, ◌-◌, ◌^◌, true, get_or, take}
use Rattle.std.specs.Char.{is_ascii_digit, digit_value}
use Rattle.std.specs.Str.Parse.{digits_value}
use Rattle.std.proofs.lemmas.Int.Digits.{digits_value_more}
use Rattle.std.proofs.lemmas.List.Sums.{AllPass-from_list_all}
use Rattle.std.proofs.lemmas.Str.{digit_value_digit}
use Rattle.sv_text.proofs.Digits.{in_range, one_more}
use Rattle.sv_text.proofs.number.digits_value.Goals as goal

pub loop-digit-preserved : goal.loop-digit-preserved
loop-digit-preserved c =
    let digits = c.args.digits.now in
    let place = c.loop-digit.digit-index in
    let digit = get_or digits place 0 in
    let passes : is_ascii_digit digit ≡ true = AllPass-from_list_all is_ascii_digit digits
    c.requires place 0 c.loop-digit-test.true in
    let value : digit_value digit + 48 ≡ digit = digit_value_digit digit (in_range digit passes) in
    one_more (2 ^ 64 - 1) (digits_value 10 (take place digits)) _ (digit_value digit) digit _ _ _
    c.loop-digit.invariant c.saturating_mul.ensures c.saturating_add-value.ensures value
    (digits_value_more 10 digits place c.loop-digit-test.true)
