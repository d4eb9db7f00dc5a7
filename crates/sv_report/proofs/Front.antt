-- Lines that are written from their end to their start.
use Rattle.std.proofs.Common.{◌≡◌, ℕ, ◌+◌, ◌-◌, ◌^◌, ◌<◌, ◌≤◌, List, [], ◌∷◌, ◌++◌, ap, sym, ◌∙◌}
use Rattle.std.proofs.Common.{length, take, drop, set, get_or, flat_map, arith}
use Rattle.std.specs.Fmt.{decimal}
use Rattle.std.proofs.lemmas.Fmt.{length-decimal-le}
use Rattle.std.proofs.lemmas.List.{take_all, take_at, drop-set, drop-drop, drop_at, drop-append-le}
use Rattle.std.proofs.lemmas.List.{length-take, length-append, length-drop, append_assoc}
use Rattle.std.proofs.lemmas.List.{at_drop_more}
use borrow.Rule.Slice.PartMut.{put_mid}
use Rattle.sv_report.specs.Words.{spaced_number}

-- a number of 32 bits has at most ten digits
pub word_digits : (n : ℕ) → n < 2 ^ 32 → length (decimal n) ≤ 10
word_digits n fits =
    length-decimal-le 10 n (omega arith) (omega (arith, fits)) (omega (arith, fits))

-- a number of 64 bits has at most twenty
pub time_digits : (n : ℕ) → n < 2 ^ 64 → length (decimal n) ≤ 20
time_digits n fits = length-decimal-le 20 n (omega arith) (omega (arith, fits)) fits

-- a byte is put before what stands behind it
pub put_before : (line : List ℕ) (start at byte : ℕ) (rest : List ℕ) → start ≡ at + 1
    → at < length line → drop start line ≡ rest → drop at (set line at byte) ≡ byte ∷ rest
put_before line start at byte rest next within same =
    drop-set line at byte within ∙ ap (λ (i : ℕ). byte ∷ drop i line) (sym next)
    ∙ ap (λ (xs : List ℕ). byte ∷ xs) same

-- what stands from a place on within 16 bytes that were copied into a line
pub copied : (name line : List ℕ) (a m : ℕ) → length name ≡ 16 → m ≤ 16 → a + 16 ≤ length line
    → drop (a + m) (put_mid a 16 line name) ≡ drop m name ++ drop (a + 16) line
copied name line a m wide within fits =
    let front : length (take a line) ≡ a = grind (arith, length-take) in
    sym (drop-drop m a (put_mid a 16 line name))
    ∙ ap (λ (xs : List ℕ). drop m xs)
    (drop_at (take a line) (name ++ drop 16 (drop a line)) a front)
    ∙ drop-append-le m name (drop 16 (drop a line)) (omega (arith, wide, within))
    ∙ ap (λ (xs : List ℕ). drop m name ++ xs) (drop-drop 16 a line)

-- the last bytes of a name are put before what stands behind them, and a space before them
pub name_put : (name line : List ℕ) (a end size start : ℕ) → a + 16 ≡ end
    → start + size + 1 ≡ end → size ≤ 16 → length name ≡ 16 → end ≤ length line
    → start < length (put_mid a 16 line name)
    → drop start (set (put_mid a 16 line name) start 32) ≡ 32 ∷
    (drop (16 - size) name ++ drop end line)
name_put name line a end size start ends starts within wide fits inside =
    put_before (put_mid a 16 line name) (a + (16 - size)) start 32
    (drop (16 - size) name ++ drop end line) (omega (arith, ends, starts, within)) inside
    (copied name line a (16 - size) wide (omega (arith, within)) (omega (arith, ends, fits))
    ∙ ap (λ (i : ℕ). drop (16 - size) name ++ drop i line) ends)

-- one more number is put before the others
pub number_put : (numbers now next rest : List ℕ) (left : ℕ) (d : ℕ) → left < length numbers
    → now ≡ flat_map spaced_number (drop (left + 1) numbers) ++ rest
    → next ≡ spaced_number (get_or numbers left d) ++ now
    → next ≡ flat_map spaced_number (drop left numbers) ++ rest
number_put numbers now next rest left d within was put =
    put ∙ ap (λ (xs : List ℕ). spaced_number (get_or numbers left d) ++ xs) was
    ∙ sym
    (append_assoc (spaced_number (get_or numbers left d))
    (flat_map spaced_number (drop (left + 1) numbers)) rest)
    ∙ ap (λ (xs : List ℕ). xs ++ rest)
    (sym (at_drop_more (flat_map spaced_number) numbers left d within))

-- all of a line from a place on
pub whole_of : (line rest : List ℕ) (start : ℕ) → length line ≡ 96 → drop start line ≡ rest
    → take (96 - start) (drop start line) ≡ rest
whole_of line rest start long same =
    take_all (96 - start) (drop start line) (omega (arith, long, length-drop start line)) ∙ same

-- all of a line from a place on but its end
pub front_of : (line front : List ℕ) (start : ℕ) → length line ≡ 96 → start ≤ 95
    → drop start line ≡ front ++ 10 ∷ [] → take (95 - start) (drop start line) ≡ front
front_of line front start long within same =
    let longer : length front + 1 ≡ 96 - start = omega
    (arith, long, length-drop start line, ap length same, length-append front (10 ∷ [])) in
    ap (λ (xs : List ℕ). take (95 - start) xs) same
    ∙ take_at front (10 ∷ []) (95 - start) (omega (arith, longer))
