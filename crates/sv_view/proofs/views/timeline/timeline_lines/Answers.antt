use Rattle.sv_view.proofs.Timelines.{all_lines, all_text}
use Rattle.sv_view.proofs.views.timeline.timeline_lines.Goals as goal

pub returns-clause-whole : goal.returns-clause-whole
returns-clause-whole c = all_text

pub returns-clause-lines : goal.returns-clause-lines
returns-clause-lines c = all_lines
