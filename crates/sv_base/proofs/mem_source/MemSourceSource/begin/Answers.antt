use Rattle.std.proofs.Common.{◌≡◌, Some, None, refl, rules}
use Rattle.sv_base.specs.Memory.{bytes_at, bytes_of, files_of}
use Rattle.sv_base.proofs.Places.{bytes_of_found, bytes_of_missing}
use Rattle.sv_base.proofs.mem_source.MemSourceSource.begin.Goals as goal
use Rattle.sv_base.proofs.mem_source.MemSourceSource.begin.Goals.{then-not-contains+in_default}
use Rattle.sv_base.proofs.mem_source.MemSourceSource.begin.Goals.{else-not-contains}

pub returns-in-Some-clause-content : goal.returns-in-Some-clause-content
returns-in-Some-clause-content c =
    let found : bytes_of c.args.self.now.files c.args.name.now ≡ Some
    (bytes_at (files_of c.self.inside.files.items) (Some c.in-Some.place)) = rw
    (← c.self.view_is) (bytes_of_found c.self.inside.files.items c.args.name.now c.in-Some.place
    (cc)) in
    rw found refl

pub returns-in-Some-clause-fails : goal.returns-in-Some-clause-fails
returns-in-Some-clause-fails c =
    let found : bytes_of c.args.self.now.files c.args.name.now ≡ Some
    (bytes_at (files_of c.self.inside.files.items) (Some c.in-Some.place)) = rw
    (← c.self.view_is) (bytes_of_found c.self.inside.files.items c.args.name.now c.in-Some.place
    (cc)) in
    rw found (search rules)

pub returns-clause-fails : goal.returns-clause-fails
returns-clause-fails c = elim c.if-not-contains.branch [
  | then-not-contains+in_default w ↦
      let missing : bytes_of c.args.self.now.files c.args.name.now ≡ None = rw (← c.self.view_is)
      (bytes_of_missing c.self.inside.files.items c.args.name.now (cc)) in
      rw missing (search rules)
  | else-not-contains w ↦ search rules
]

pub returns-clause-sure : goal.returns-clause-sure
returns-clause-sure c = elim c.if-not-contains.branch [
  | then-not-contains+in_default w ↦
      let missing : bytes_of c.args.self.now.files c.args.name.now ≡ None = rw (← c.self.view_is)
      (bytes_of_missing c.self.inside.files.items c.args.name.now (cc)) in
      rw missing (search rules)
  | else-not-contains w ↦ search rules
]
