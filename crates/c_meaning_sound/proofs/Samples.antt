-- There is an accepted text, with a site of each kind.
use Rattle.std.proofs.Common.{◌≡◌, refl, arith}
use Rattle.std.specs.Prelude.{codes}
use Rattle.cbi_base.specs.Name.{IsName}
use Rattle.c_types.specs.Fault.{walk_tree}
use Rattle.c_types_walk.specs.ItemWalk.{walk_body}
use Rattle.c_types_walk.specs.StatementWalk.{walk_typed}
use Rattle.c_types_expressions.specs.Walked.{Fine}
use Rattle.c_meaning_sound.specs.Accepted.{IsAcceptedTree}
use Rattle.c_meaning_sound.specs.Sample.{sample_tree, sample_walk}
use Rattle.c_meaning_sound.specs.Sited.{IsLine, IsSited}

sample_walked : walk_tree sample_tree ≡ Fine tt sample_walk
unfolding walk_body walk_typed
sample_walked = refl

pub sample_accepted : IsAcceptedTree sample_tree sample_walk
sample_accepted = record {
  formed = record {
    shaped = record {
      has_item = tt;
      items = ((tt, ((tt, ((omega arith, tt), tt)), ((tt, tt), (tt, tt)))), tt);
      placed = ((refl, refl, tt, ((refl, refl, ((refl, (refl, refl), refl), tt)), ((refl, refl, (refl, (refl, tt))), ((refl, refl), tt)))), tt);
      lines = refl;
    };
    nests = omega arith;
  };
  walked = sample_walked;
  short = omega arith;
  constants = (
    tt,
    (
      tt,
      (
        tt,
        (tt, (tt, (tt, (tt, (tt, (tt, (refl, (tt, (tt, (tt, (tt, (tt, (tt, (tt, (tt, (tt, (tt, (tt, (tt, (tt, (tt, tt))))))))))))))))))))),
      ),
    ),
  );
}

main_named : IsName (codes "main")
main_named = record { begins = refl; runs = refl; short = omega arith }

x_named : IsName (codes "x")
x_named = record { begins = refl; runs = refl; short = omega arith }

getchar_named : IsName (codes "getchar")
getchar_named = record { begins = refl; runs = refl; short = omega arith }

first_line : IsLine 1
first_line = (omega arith, omega arith)

pub sample_sited : IsSited sample_tree
sample_sited = record {
  tokens = (
    tt,
    (
      main_named,
      (
        tt,
        (
          tt,
          (
            tt,
            (
              tt,
              (
                tt,
                (
                  x_named,
                  (tt, (refl, (tt, (tt, (tt, (x_named, (tt, (tt, (getchar_named, (tt, (tt, (tt, (tt, (x_named, (tt, (tt, tt)))))))))))))))),
                ),
              ),
            ),
          ),
        ),
      ),
    ),
  );
  lines = (
    first_line,
    (
      first_line,
      (
        first_line,
        (
          first_line,
          (
            first_line,
            (
              first_line,
              (
                first_line,
                (
                  first_line,
                  (
                    first_line,
                    (
                      first_line,
                      (
                        first_line,
                        (
                          first_line,
                          (
                            first_line,
                            (
                              first_line,
                              (
                                first_line,
                                (
                                  first_line,
                                  (
                                    first_line,
                                    (
                                      first_line,
                                      (first_line, (first_line, (first_line, (first_line, (first_line, (first_line, tt)))))),
                                    ),
                                  ),
                                ),
                              ),
                            ),
                          ),
                        ),
                      ),
                    ),
                  ),
                ),
              ),
            ),
          ),
        ),
      ),
    ),
  );
  few = omega arith;
}
