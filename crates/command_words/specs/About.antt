-- What ketch says of itself.
use Rattle.std.specs.Prelude.{ℕ, List, ◌++◌, codes}

abbrev pub version_text : List ℕ
version_text = codes "ketch 0.1.0\n"

-- how it is called
abbrev pub usage_text : List ℕ
usage_text =
    codes "Usage: ketch COMMAND ..\n\n"
    ++ codes "  cover CIRCUIT SIGNALS [OPTIONS]  find out which combinations of signals a circuit can show\n"
    ++ codes "  goals CIRCUIT SIGNALS            print the circuit whose bad literals are the goals\n"
    ++ codes "  replay CIRCUIT SIGNALS WITNESS   replay a witness from reset, and print the goal that it shows\n"
    ++ codes "  lrat FORMULA PROOF               check an LRAT proof that a DIMACS formula has no model\n"
    ++ codes "  --help                           print this text\n"
    ++ codes "  --version                        print the version\n\n"

-- the options of `cover`: the range and, in brackets, the number of an option that isn't given
abbrev pub options_text : List ℕ
options_text =
    codes "Options of cover, in any order, each but the last with a number:\n\n"
    ++ codes "  --depth     0..200                     steps of the search from reset [10]\n"
    ++ codes "  --batches   0..16                      batches of random walks [2]\n"
    ++ codes "  --length    1..100000                  steps of a walk [1000]\n"
    ++ codes "  --stall     1..100000                  steps after which a walk that finds nothing ends [100]\n"
    ++ codes "  --hop       0..50                      steps of a search from a simulated state [4]\n"
    ++ codes "  --seed      0..18446744073709551615    start of the random numbers [1]\n"
    ++ codes "  --lemmas    1..1000000                 lemmas that a query may spend [20000]\n"
    ++ codes "  --strength  0..2                       literals of an inductive clause [2]\n"
    ++ codes "  --rounds    0                          rounds after the first [0]\n"
    ++ codes "  --workers   1..8                       threads [4]\n"
    ++ codes "  --proofs                               tell the searches that find nothing, with their proofs\n\n"

abbrev pub statuses_text : List ℕ
statuses_text =
    codes "Statuses:\n\n"
    ++ codes "  0  every goal is settled, the circuit is printed, or the proof or witness is accepted\n"
    ++ codes "  1  some goal is open\n"
    ++ codes "  2  an invalid command line\n"
    ++ codes "  3  a file cannot be read\n"
    ++ codes "  4  the circuit is not accepted\n"
    ++ codes "  5  the signals are not accepted\n"
    ++ codes "  6  a file or a number is past its limit\n"
    ++ codes "  7  the output cannot be written\n"
    ++ codes "  8  out of memory\n"
    ++ codes "  9  the proof or witness is not accepted\n"

abbrev pub help_text : List ℕ
help_text = usage_text ++ options_text ++ statuses_text
