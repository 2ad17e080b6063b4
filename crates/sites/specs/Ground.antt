-- What the code makes a body's sites from.
use Rattle.c_types.specs.Answers.{known_of, tree_of}
use Rattle.sites.specs.declared.ground.Ground.{Ground}
use Rattle.sites.specs.SitesAt.{Body}

abbrev pub body_of : Ground → Body
body_of g = record {
  known = known_of g.checked.now;
  lines = (tree_of g.checked.now).lines;
  schemes = g.schemes;
  function = g.function;
  constants = g.constants.now;
}
