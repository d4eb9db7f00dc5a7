use Rattle.std.proofs.Common.{Option, ap}
use Rattle.sv_cli.specs.Answers.{is_ringless, is_silent}
use Rattle.sv_cli.specs.Commands.{Request, file_of, request_of}
use Rattle.sv_cli.proofs.Requests.{nothing_asked, of_none, no_file}
use Rattle.sv_cli.proofs.top.sysview.Goals as goal

pub returns-clause-usage : goal.returns-clause-usage
returns-clause-usage g c = (
  λ is. nothing_asked (g.S.Source.held c.args.src.now) (g.S.Source.left c.respond-status.new.src)
      (g.K.Sink.written c.args.out.now) (g.K.Sink.written c.respond-status.new.out)
      (g.D.Dock.stories c.args.dock.now) (g.D.Dock.stories c.respond-status.new.dock) c.respond-status.new.journal.items c.respond-status.result (request_of c.args.words.now)
      (c.respond-status.ensures.answered) is,
  λ none. (of_none (request_of c.args.words.now) c.respond-status.ensures.usage none).0,
)

pub returns-clause-untouched : goal.returns-clause-untouched
returns-clause-untouched g c = λ is.
    let none = nothing_asked (g.S.Source.held c.args.src.now) (g.S.Source.left c.respond-status.new.src)
    (g.K.Sink.written c.args.out.now) (g.K.Sink.written c.respond-status.new.out)
    (g.D.Dock.stories c.args.dock.now) (g.D.Dock.stories c.respond-status.new.dock) c.respond-status.new.journal.items c.respond-status.result (request_of c.args.words.now)
    (c.respond-status.ensures.answered) is in (
      no_file (file_of (request_of c.args.words.now)) c.respond-status.ensures.source.unread
          (ap file_of none),
      c.respond-status.ensures.sink.unwritten
          (ap (λ (a : Option Request). is_silent a c.respond-status.result) none),
      c.respond-status.ensures.ringless (ap (λ (a : Option Request). is_ringless a c.respond-status.result) none),
      (of_none (request_of c.args.words.now) c.respond-status.ensures.usage none).1,
    )
