use Rattle.dsm_laws_history.proofs.made_threads.Goals as goal

pub returns : goal.returns
returns g c = λ maker setup. record { asks = λ p lt. g.met.M.TaskMaker.asks_first maker setup.procs p }
