-- The parts of a packet, written one after another, are its spelling.
use Rattle.std.proofs.Common.{◌≡◌, ℕ, ◌+◌, ◌^◌, ◌<◌, ◌≤◌, List, [], ◌∷◌, ◌++◌, map, length, refl}
use Rattle.std.proofs.Common.{sym, ap, ◌∙◌, append_assoc, arith}
use Rattle.std.specs.List.{AllByRecursion}
use Rattle.std.proofs.lemmas.List.{append-nil, length-append}
use Rattle.sv_prim.specs.Number.{number_spelling, numbers_spelling, AreWords}
use Rattle.sv_prim.specs.Text.{AreBytes, text_spelling}
use Rattle.sv_packet.specs.Table.{print_fields, Field, Number, Text, Raw}
use Rattle.sv_packet.specs.Spelling.{fields_spelling, head_spelling, parts_spelling, print_payload}
use Rattle.sv_packet.specs.Spelling.{IsInRange}
use Rattle.sv_packet.proofs.lists.Adding.{of_some}

pub numbers_fields : (ns : List ℕ) → fields_spelling (map Number ns) ≡ numbers_spelling ns
numbers_fields [] = refl
numbers_fields (n ∷ ns) = ap (λ (k : List ℕ). number_spelling n ++ k) (numbers_fields ns)

pub texted_fields : (ns text : List ℕ) →
    fields_spelling (map Number ns ++ Text text ∷ []) ≡ numbers_spelling ns ++ text_spelling text
texted_fields [] text = append-nil (text_spelling text)
texted_fields (n ∷ ns) text =
    ap (λ (k : List ℕ). number_spelling n ++ k) (texted_fields ns text)
    ∙ sym (append_assoc (number_spelling n) (numbers_spelling ns) (text_spelling text))

pub texted_len : (ns text : List ℕ) →
    length (fields_spelling (map Number ns ++ Text text ∷ []))
    ≡ length (numbers_spelling ns) + length (text_spelling text)
texted_len ns text =
    ap length (texted_fields ns text) ∙ length-append (numbers_spelling ns) (text_spelling text)

pub numbers_range : (ns : List ℕ) → AreWords ns → AllByRecursion IsInRange (map Number ns)
numbers_range [] are = tt
numbers_range (n ∷ ns) are = (are.0, numbers_range ns are.1)

pub texted_range : (ns text : List ℕ) → AreWords ns → AreBytes text →
    AllByRecursion IsInRange (map Number ns ++ Text text ∷ [])
texted_range [] text are bytes = (bytes, tt)
texted_range (n ∷ ns) text are bytes = (are.0, texted_range ns text are.1 bytes)

-- a head, a payload and a delta
pub parts_written : (id size delta : ℕ) (fs : List Field) (old head body whole : List ℕ) →
    size ≡ length (fields_spelling fs) → head ≡ old ++ head_spelling id size →
    body ≡ head ++ fields_spelling fs → whole ≡ body ++ number_spelling delta
    → whole ≡ old ++ parts_spelling id fs delta
parts_written id size delta fs old head body whole same is_head is_body is_whole =
    let payload = fields_spelling fs in
    let last = number_spelling delta in
    let front = head_spelling id size in
    is_whole
    ∙ ap (λ (k : List ℕ). k ++ last)
    (is_body ∙ ap (λ (k : List ℕ). k ++ payload) is_head ∙ append_assoc old front payload)
    ∙ append_assoc old (front ++ payload) last
    ∙ ap (λ (k : List ℕ). old ++ k) (append_assoc front payload last)
    ∙ ap (λ (k : ℕ). old ++ (head_spelling id k ++ (payload ++ last))) same

pub plain_written : (id size delta : ℕ) (ns old head body whole : List ℕ) →
    size ≡ length (numbers_spelling ns) → head ≡ old ++ head_spelling id size →
    body ≡ head ++ numbers_spelling ns → whole ≡ body ++ number_spelling delta
    → whole ≡ old ++ parts_spelling id (map Number ns) delta
plain_written id size delta ns old head body whole same is_head is_body is_whole =
    let fields = sym (numbers_fields ns) in
    parts_written id size delta (map Number ns) old head body whole (same ∙ ap length fields)
    is_head (is_body ∙ ap (λ (k : List ℕ). head ++ k) fields) is_whole

pub texted_written : (id size delta : ℕ) (ns text old head front body whole : List ℕ) →
    size ≡ length (numbers_spelling ns) + length (text_spelling text) →
    head ≡ old ++ head_spelling id size
    → front ≡ head ++ numbers_spelling ns → body ≡ front ++ text_spelling text →
    whole ≡ body ++ number_spelling delta →
    whole ≡ old ++ parts_spelling id (map Number ns ++ Text text ∷ []) delta
texted_written id size delta ns text old head front body whole same is_head is_front is_body
    is_whole =
    let fields = sym (texted_fields ns text) in
    let joined =
    is_body ∙ ap (λ (k : List ℕ). k ++ text_spelling text) is_front
    ∙ append_assoc head (numbers_spelling ns) (text_spelling text) in
    parts_written id size delta (map Number ns ++ Text text ∷ []) old head body whole
    (same ∙ sym (texted_len ns text)) is_head (joined ∙ ap (λ (k : List ℕ). head ++ k) fields)
    is_whole

pub print_spelled : (text : List ℕ) (options : ℕ) (args : List ℕ) →
    print_payload text options args
    ≡ text_spelling text
    ++ (number_spelling options ++ (number_spelling (length args) ++ numbers_spelling args))
print_spelled text options args =
    ap
    (λ (k : List ℕ). text_spelling text
    ++ (number_spelling options ++ (number_spelling (length args) ++ k))) (numbers_fields args)

pub print_len : (text : List ℕ) (options : ℕ) (args : List ℕ) →
    length (print_payload text options args)
    ≡ length (text_spelling text)
    + (length (number_spelling options)
    + (length (number_spelling (length args)) + length (numbers_spelling args)))
print_len text options args =
    let front = text_spelling text in
    let one = number_spelling options in
    let two = number_spelling (length args) in
    let rest = numbers_spelling args in
    omega (
      arith,
      ap length (print_spelled text options args),
      length-append front (one ++ (two ++ rest)),
      length-append one (two ++ rest),
      length-append two rest,
    )

numbers_some : (ns : List ℕ) → length ns ≤ length (numbers_spelling ns)
numbers_some [] = omega arith
numbers_some (n ∷ ns) = omega (
  arith,
  numbers_some ns,
  of_some n,
  length-append (number_spelling n) (numbers_spelling ns),
)

-- a print has no more arguments than bytes
pub few_args : (text : List ℕ) (options : ℕ) (args : List ℕ) →
    length args ≤ length (print_payload text options args)
few_args text options args = omega (arith, print_len text options args, numbers_some args)

pub print_range : (text : List ℕ) (options : ℕ) (args : List ℕ) → AreBytes text → options < 2 ^ 32 →
    length args < 2 ^ 32 → AreWords args → AllByRecursion IsInRange (print_fields text options args)
print_range text options args bytes option many words =
    (bytes, (option, (many, numbers_range args words)))

pub print_written : (size delta options : ℕ) (text args old head w1 w2 w3 body whole : List ℕ) →
    size ≡ length (print_payload text options args) → head ≡ old ++ head_spelling 26 size →
    w1 ≡ head ++ text_spelling text
    → w2 ≡ w1 ++ number_spelling options → w3 ≡ w2 ++ number_spelling (length args) →
    body ≡ w3 ++ numbers_spelling args → whole ≡ body ++ number_spelling delta →
    whole ≡ old ++ parts_spelling 26 (print_fields text options args) delta
print_written size delta options text args old head w1 w2 w3 body whole same is_head e1 e2 e3
    is_body is_whole =
    let front = text_spelling text in
    let one = number_spelling options in
    let two = number_spelling (length args) in
    let rest = numbers_spelling args in
    let joined : body ≡ head ++ (front ++ (one ++ (two ++ rest)))
    =
    is_body
    ∙ ap (λ (k : List ℕ). k ++ rest)
    (e3 ∙ ap (λ (k : List ℕ). k ++ two) (e2 ∙ ap (λ (k : List ℕ). k ++ one) e1))
    ∙ append_assoc ((head ++ front) ++ one) two rest
    ∙ append_assoc (head ++ front) one (two ++ rest)
    ∙ append_assoc head front (one ++ (two ++ rest)) in
    parts_written 26 size delta (print_fields text options args) old head body whole same is_head
    (joined ∙ ap (λ (k : List ℕ). head ++ k) (sym (print_spelled text options args))) is_whole

pub opaque_written : (id delta : ℕ) (payload old head body whole : List ℕ) →
    head ≡ old ++ head_spelling id (length payload) → body ≡ head ++ payload →
    whole ≡ body ++ number_spelling delta →
    whole ≡ old ++ parts_spelling id (Raw payload ∷ []) delta
opaque_written id delta payload old head body whole is_head is_body is_whole =
    let raw : payload ≡ payload ++ [] = sym (append-nil payload) in
    parts_written id (length payload) delta (Raw payload ∷ []) old head body whole (ap length raw)
    is_head (is_body ∙ ap (λ (k : List ℕ). head ++ k) raw) is_whole
