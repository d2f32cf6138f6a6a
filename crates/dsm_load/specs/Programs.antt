-- The program of the large job.
use Rattle.std.specs.Prelude.{ℕ, List, ◌++◌, codes}
use Rattle.std.specs.Fmt.{decimal}

-- the text up to the first place of the number
unfoldable pub opening : List ℕ
opening =
    codes "shared int acc[64];\n"
    ++ codes "shared int moved[4];\n"
    ++ codes "lock_t L[16];\n"
    ++ codes "barrier_t B;\n"
    ++ codes "bindeach(L, acc, 4);\n"
    ++ codes "bindb(B, moved, 0, 1, 0, 1, 3);\n"
    ++ codes "bindb(B, moved, 1, 1, 1, 1, 3);\n"
    ++ codes "bindb(B, moved, 2, 1, 2, 1, 3);\n"
    ++ codes "bindb(B, moved, 3, 1, 3, 1, 3);\n"
    ++ codes "int main(int me, int n) {\n"
    ++ codes "  for (int i = 4 * me; i < 4 * me + 4; i++) {\n"
    ++ codes "    acquire(L[i]);\n"
    ++ codes "    for (int j = 0; j < 4; j++) acc[4 * i + j] = 1000;\n"
    ++ codes "    release(L[i]);\n"
    ++ codes "  }\n"
    ++ codes "  barrier(B);\n"
    ++ codes "  for (int k = 0; k < 50; k++) {\n"
    ++ codes "    int f = (me * 17 + k * 7 + "

-- from there to its second place
unfoldable pub middle : List ℕ
middle =
    codes ") % 64;\n"
    ++ codes "    int t = (f + 1 + (k * 5 + me) % 63) % 64;\n"
    ++ codes "    int v = ("

-- and the rest
unfoldable pub closing : List ℕ
closing =
    codes " + me + k) % 9 + 1;\n"
    ++ codes "    int lo = f / 4, hi = t / 4;\n"
    ++ codes "    if (lo > hi) { int s = lo; lo = hi; hi = s; }\n"
    ++ codes "    acquire(L[lo]);\n"
    ++ codes "    if (lo != hi) acquire(L[hi]);\n"
    ++ codes "    acc[f] -= v;\n"
    ++ codes "    acc[t] += v;\n"
    ++ codes "    moved[me] += v;\n"
    ++ codes "    if (lo != hi) release(L[hi]);\n"
    ++ codes "    release(L[lo]);\n"
    ++ codes "  }\n"
    ++ codes "  barrier(B);\n"
    ++ codes "  if (me == 0) {\n"
    ++ codes "    int total = 0, m = 0;\n"
    ++ codes "    for (int i = 0; i < 16; i++) {\n"
    ++ codes "      acquire_shared(L[i]);\n"
    ++ codes "      for (int j = 0; j < 4; j++) total += acc[4 * i + j];\n"
    ++ codes "      release(L[i]);\n"
    ++ codes "    }\n"
    ++ codes "    print(\"total \", total);\n"
    ++ codes "    for (int i = 0; i < 4; i++) m += moved[i];\n"
    ++ codes "    print(\"moved \", m);\n"
    ++ codes "  }\n"
    ++ codes "  return 0;\n"
    ++ codes "}\n"

-- the program: its number stands at two places of it, in decimal
abbrev pub program_of : ℕ → List ℕ
program_of seed = opening ++ (decimal seed ++ (middle ++ (decimal seed ++ closing)))
