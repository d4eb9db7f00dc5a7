-- The commands of a journal are the first of those that were sent.
use Rattle.std.proofs.Common.{◌≡◌, ℕ, List, [], ◌∷◌, ◌++◌, length}
use Rattle.std.proofs.Common.{take, drop, All, refl, sym, ap, subst, ◌∙◌}
use Rattle.std.proofs.Common.{append_assoc}
use Rattle.std.specs.Prelude.{flat_map, reverse}
use Rattle.std.proofs.lemmas.List.{append_cancel_left, reverse-append, reverse-reverse}
use Rattle.std.proofs.lemmas.List.{take-append-drop}
use Rattle.std.proofs.lemmas.Grind.{flat_map-append}
use Rattle.std.proofs.lemmas.List.Elements.{All-head, All-tail, All-nil, All-cons, All-append}
use Rattle.std.proofs.lemmas.List.Elements.{All-weaker}
use Rattle.sv_ring.specs.Down.{IsFront}
use Rattle.sv_load.specs.declared.load.Command.{Command}
use Rattle.sv_load.specs.Load.{Load}
use Rattle.sv_load.specs.Need.{IsAsked}
use Rattle.sv_journal.specs.declared.journal.Item.{Item}
use Rattle.sv_journal.specs.declared.journal.Origin.{Origin}
use Rattle.sv_journal.specs.declared.journal.Origin.TheVariants as origins
use Rattle.sv_journal.specs.Legal.{IsLegal, EachItem, IsNextItem, IsCommandInPlace, command_in}
use Rattle.sv_journal.specs.Legal.{commands_in, AreFirstCommands}
use Rattle.sv_recorder.specs.Commands.{command_bytes, command_bytes_in, HasParam}
use Rattle.sv_core.proofs.Shared.{same_first, some_bytes}

-- bytes that begin with those of some commands are those of no others first
first_of : (xs ys : List Command) (rest : List ℕ) → All HasParam xs → All HasParam ys
    → flat_map command_bytes xs ++ rest ≡ flat_map command_bytes ys → xs ≡ take (length xs) ys
first_of [] ys rest p q e = refl
first_of (c ∷ cs) [] rest p q e =
    absurd (some_bytes c (flat_map command_bytes cs ++ rest)
    (sym (append_assoc (command_bytes c) (flat_map command_bytes cs) rest) ∙ e))
first_of (c ∷ cs) (d ∷ ds) rest p q e =
    let split : command_bytes c ++ (flat_map command_bytes cs ++ rest)
    ≡ command_bytes d ++ flat_map command_bytes ds =
    sym (append_assoc (command_bytes c) (flat_map command_bytes cs) rest) ∙ e in
    let same : c ≡ d =
    same_first c d (flat_map command_bytes cs ++ rest) (flat_map command_bytes ds)
    (All-head HasParam c cs p) (All-head HasParam d ds q) split in
    let left : flat_map command_bytes cs ++ rest ≡ flat_map command_bytes ds =
    append_cancel_left (command_bytes c) (flat_map command_bytes cs ++ rest)
    (flat_map command_bytes ds)
    (split ∙ ap (λ (x : Command). command_bytes x ++ flat_map command_bytes ds) (sym same)) in
    ap (λ (x : Command). x ∷ cs) same
    ∙ ap (λ (xs : List Command). d ∷ xs)
    (first_of cs ds rest (All-tail HasParam c cs p) (All-tail HasParam d ds q) left)

-- the commands of a legal journal have a parameter only from 128 on
param_of : (load : Load) (earlier : List Item) (o : Origin) → IsCommandInPlace earlier o
    → All HasParam (command_in o)
param_of load earlier (origins.Command byte param) p =
    All-cons HasParam (record { byte = byte; param = param }) [] p.1 (All-nil HasParam)
param_of load earlier (origins.Call writer step) p = All-nil HasParam
param_of load earlier origins.Sync p = All-nil HasParam
param_of load earlier (origins.Reply kind index) p = All-nil HasParam
param_of load earlier (origins.Overflow count) p = All-nil HasParam

params_in : (load : Load) (l : List Item) → EachItem (IsNextItem load) l
    → All HasParam (commands_in (reverse l))
params_in load [] each = All-nil HasParam
params_in load (i ∷ earlier) each =
    let cut : commands_in (reverse (i ∷ earlier))
    ≡ commands_in (reverse earlier) ++ commands_in (i ∷ []) =
    ap commands_in (reverse-append (i ∷ []) earlier)
    ∙ flat_map-append (λ (x : Item). command_in x.origin) (reverse earlier) (i ∷ []) in
    subst (All HasParam) (sym cut)
    (All-append HasParam (commands_in (reverse earlier)) (commands_in (i ∷ []))
    (params_in load earlier each.0)
    (All-append HasParam (command_in i.origin) []
    (param_of load earlier i.origin each.1.command) (All-nil HasParam)))

-- a journal whose commands' bytes are the first that were sent has the first commands
pub first_commands : (load : Load) (items : List Item) (kept : List ℕ) → IsLegal load items
    → All IsAsked load.commands
    → IsFront (command_bytes_in items ++ kept) (flat_map command_bytes load.commands)
    → AreFirstCommands load items
first_commands load items kept legal asked front =
    let all : List ℕ = flat_map command_bytes load.commands in
    let n : ℕ = length (command_bytes_in items ++ kept) in
    let whole : command_bytes_in items ++ (kept ++ drop n all) ≡ all =
    sym (append_assoc (command_bytes_in items) kept (drop n all))
    ∙ (ap (λ (l : List ℕ). l ++ drop n all) front ∙ take-append-drop n all) in
    first_of (commands_in items) load.commands (kept ++ drop n all)
    (subst (λ (l : List Item). All HasParam (commands_in l)) (reverse-reverse items)
    (params_in load (reverse items) legal.each))
    (All-weaker IsAsked HasParam (λ c a. a.2) load.commands asked)
    whole
