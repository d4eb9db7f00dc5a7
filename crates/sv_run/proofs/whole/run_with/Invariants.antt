use Rattle.sv_run.proofs.whole.run_with.Given as goal

-- the run is of this workload, and of the rings that the dock made for it
abbrev pub ghosts-run_named : goal.ghosts-run_named
ghosts-run_named g a = record {
  load = a.load.now;
  up = a.recorder.ring;
  down = a.recorder.down;
}
