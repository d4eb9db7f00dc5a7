use Rattle.std.proofs.Common.{Option, None, ap}
use Rattle.sv_cli.specs.Answers.{is_silent}
use Rattle.sv_cli.specs.Commands.{Request, file_of, offline_of}
use Rattle.sv_cli.proofs.Requests.{nothing_asked, of_none, no_file}
use Rattle.sv_cli.proofs.top.offline.Goals as goal

pub returns-clause-usage : goal.returns-clause-usage
returns-clause-usage g c = (
  λ is. nothing_asked (g.S.Source.held c.args.src.now) (g.S.Source.left c.answer-status.new.src)
      (g.K.Sink.written c.args.out.now) (g.K.Sink.written c.answer-status.new.out)
      None None c.answer-status.new.journal.items c.answer-status.result (offline_of c.args.words.now)
      (c.answer-status.ensures.answered None None) is,
  λ none. (of_none (offline_of c.args.words.now) c.answer-status.ensures.usage none).0,
)

pub returns-clause-untouched : goal.returns-clause-untouched
returns-clause-untouched g c = λ is.
    let none = nothing_asked (g.S.Source.held c.args.src.now) (g.S.Source.left c.answer-status.new.src)
    (g.K.Sink.written c.args.out.now) (g.K.Sink.written c.answer-status.new.out)
    None None c.answer-status.new.journal.items c.answer-status.result (offline_of c.args.words.now)
    (c.answer-status.ensures.answered None None) is in (
      no_file (file_of (offline_of c.args.words.now)) c.answer-status.ensures.source.unread
          (ap file_of none),
      c.answer-status.ensures.sink.unwritten
          (ap (λ (a : Option Request). is_silent a c.answer-status.result) none),
      (of_none (offline_of c.args.words.now) c.answer-status.ensures.usage none).1,
    )

pub returns-clause-answered : goal.returns-clause-answered
returns-clause-answered g c = c.answer-status.ensures.answered None None
