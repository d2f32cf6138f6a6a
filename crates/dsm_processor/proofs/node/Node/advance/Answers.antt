use Rattle.std.proofs.Common.{◌∙◌}
use Rattle.dsm_processor.proofs.node.Node.advance.Goals as goal

pub returns-clause-shape : goal.returns-clause-shape
returns-clause-shape g c =
    let setup = c.args.self.now.setup.value in
    record {
      is_processor = c.requires.shape.is_processor;
      table = c.requires.shape.table;
      copy = c.requires.shape.copy;
      rights = c.change.ensures.sizes setup.locks setup.bars c.requires.shape.rights;
      versions = c.change_versions.ensures.length ∙ c.requires.shape.versions;
      locks = c.requires.shape.locks;
      lines = c.requires.shape.lines;
      peers = c.requires.shape.peers;
      manager = c.requires.shape.manager;
      procs = c.requires.shape.procs;
      bars = c.requires.shape.bars;
      arrivals = c.requires.shape.arrivals;
    }
