use Rattle.std.proofs.Common.{length, drop, ap, ◌∙◌, List, ℕ}
use Rattle.std.specs.Prelude.{String, is_some}
use Rattle.std.specs.Global.{Global, Vec}
use Rattle.sv_base.specs.declared.failed.Failed.{Failed}
use Rattle.sv_base.specs.Memory.{bytes_at, files_of}
use Rattle.sv_base.proofs.Reading.{read_begun}
use Rattle.sv_base.proofs.mem_source.MemSourceSource.read.Goals as goal

pub returns-clause-bytes : goal.returns-clause-bytes
returns-clause-bytes c =
    let left = c.rest_of-rest.ensures.rest ∙ ap
    (λ (files : List (String Global × Vec ℕ)). drop c.self.inside.at
    (bytes_at (files_of files) c.self.inside.file)) c.deref-2.ensures.value in
    rw (← c.self.view_is) (read_begun Failed (is_some c.self.inside.file)
    (bytes_at (files_of c.self.inside.files.items) c.self.inside.file) c.rest_of-rest.result.now
    c.copy_from_slice.new.self (drop c.min-count.result c.args.buf.now)
    c.self.inside.at c.min-count.result (length c.args.buf.now) left c.copy_from_slice.ensures.after
    c.min-count.ensures c.requires.room)
