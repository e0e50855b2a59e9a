-- What the program says of itself.
use Rattle.std.specs.Prelude.{ℕ, List, [], ◌∷◌, ◌++◌, codes}
use Rattle.std.specs.List.{flat_map}
use Rattle.ddm_words.specs.declared.command.About.{About}
use Rattle.ddm_words.specs.declared.command.About.TheVariants as about

-- a text of these lines
abbrev lines_of : List (List ℕ) → List ℕ
lines_of lines = flat_map (λ line. line ++ codes "\n") lines

-- what the words of a command name, an example of each, and how large their numbers may be
abbrev pub named_text : List ℕ
named_text = lines_of (
    codes "" ∷
    codes "IMAGE is an ELF file for RV32IA of at most 4 MiB. Every hart begins at its" ∷
    codes "entry, its number in a0, the number of harts in a1. An example, made from C:" ∷
    codes "  riscv64-unknown-elf-gcc -march=rv32ia -mabi=ilp32 -nostdlib -Wl,--no-relax \\" ∷
    codes "    -o IMAGE program.c -lgcc" ∷
    codes "" ∷
    codes "TREE is a TOML file, a line for each key. In its shape L is a leaf with a hart," ∷
    codes "and (..) a bus over leaves or over buses. An example, two harts under one bus:" ∷
    codes "  printf '%s\\n' 'shape=\"(LL)\"' ways=4 sets=256 buffer=4 parking=4 down=64 \\" ∷
    codes "    requests=64 replies=64 stack_base=1048576 stack_bytes=4096 > TREE" ∷
    codes "" ∷
    codes "SCHEDULE has a turn in each line, `h HART VICTIM` or `g BUS` with `d`," ∷
    codes "`q CHILD`, `r CHILD` or `l CHILD CHOICE`, and then a line `end`. An example, in" ∷
    codes "which hart 0 tries an instruction, and bus 0 grants what it asks for:" ∷
    codes "  printf 'h 0 0\\ng 0 q 0\\nend\\n' > SCHEDULE" ∷
    codes "" ∷
    codes "WITNESS has the lines of a report that begin with op, and CHECKPOINT is what" ∷
    codes "ddm save puts out. An example of each:" ∷
    codes "  ddm run IMAGE TREE SCHEDULE | grep '^op' > WITNESS" ∷
    codes "  ddm save IMAGE TREE SCHEDULE > CHECKPOINT" ∷
    codes "" ∷
    codes "SEED and FIRST have 64 bits. TURNS is 0 to 1048576, and no schedule has more;" ∷
    codes "of measure it is 0 to 1000000000. ROUNDS is 1 to 50000, COUNT 1 to 1000000," ∷
    codes "VICTIM and CHOICE 0 to 255. A tree has 4 levels of buses at most, 16 nodes" ∷
    codes "under a bus and 64 leaves. ways is 1, 2 or 4; sets, down, requests and replies" ∷
    codes "are 1 to 4096, buffer 1 to 16, parking 1 to 64. stack_base is a multiple of 16," ∷
    codes "4294967280 at most, and so is stack_bytes, 1048576 at most. item_bytes is 64," ∷
    codes "or 16, as where it is missing." ∷
    [])

-- each line of a fault, and what to do
abbrev pub faults_text : List ℕ
faults_text = lines_of (
    codes "A command that isn't done puts one line on standard error, ddm: and what is" ∷
    codes "wrong. The number before it here is the status that it ends with; behind it" ∷
    codes "stands what to do." ∷
    codes "" ∷
    codes " 2 usage: word N                     word N, counted from 0 behind ddm, is" ∷
    codes "                                     wrong or missing: see ddm help COMMAND" ∷
    codes " 3 image: too long                   4 MiB are the most: link it with -s" ∷
    codes " 3 image: not elf                    give the image first and then the tree" ∷
    codes " 3 image: wrong class                compile it for 32 bits: -march=rv32ia" ∷
    codes "                                     -mabi=ilp32" ∷
    codes " 3 image: not executable             link it, with -static and -no-pie" ∷
    codes " 3 image: wrong machine              compile it for RISC-V" ∷
    codes " 3 image: compressed                 compile all of it with -march=rv32ia" ∷
    codes " 3 image: hard float                 compile all of it with -mabi=ilp32" ∷
    codes " 3 image: embedded                   compile all of it with -mabi=ilp32" ∷
    codes " 3 image: too many headers N         64 are the most: link fewer segments" ∷
    codes " 3 image: header outside N           the file is cut or damaged: link it again" ∷
    codes " 3 image: dynamic N                  link it with -static and -no-pie" ∷
    codes " 3 image: segment outside N          the file is cut or damaged: link it again" ∷
    codes " 3 image: address wraps N            link segment N to lower addresses" ∷
    codes " 3 image: segments overlap N M       link these segments to addresses apart" ∷
    codes " 3 image: no segments                nothing in it is loaded: link code" ∷
    codes " 3 image: too much code N            it has N bytes of code, 1048576 are the" ∷
    codes "                                     most: optimize for size" ∷
    codes " 3 image: too many items N           65536 are the most: take smaller arrays or" ∷
    codes "                                     stacks, or items of 64 bytes" ∷
    codes " 3 image: bad entry N                there is no code at address N: name the" ∷
    codes "                                     entry _start, or link with -e NAME" ∷
    codes " 3 image: stack overlap H N          the stack of hart H meets segment N:" ∷
    codes "                                     change stack_base" ∷
    codes " 3 image: no place N                 N places are too few for the items: give" ∷
    codes "                                     the tree more sets or ways, or smaller" ∷
    codes "                                     stacks" ∷
    codes " 4 tree: too long                    65536 bytes are the most" ∷
    codes " 4 tree: not toml                    write KEY = VALUE in each line, shape in" ∷
    codes "                                     quotes and no key twice" ∷
    codes " 4 tree: unknown key KEY             take this key out, or spell it right" ∷
    codes " 4 tree: missing key KEY             add a line with this key" ∷
    codes " 4 tree: wrong type KEY              shape is a text in quotes, all others are" ∷
    codes "                                     whole numbers" ∷
    codes " 4 tree: bad shape N                 look behind the first N bytes of the shape" ∷
    codes " 4 tree: uneven                      bring all leaves to the same depth" ∷
    codes " 4 tree: too deep                    4 levels of buses are the most" ∷
    codes " 4 tree: too wide                    16 nodes under a bus are the most" ∷
    codes " 4 tree: too many leaves             64 are the most" ∷
    codes " 4 tree: out of range KEY            take a number that ddm help run allows" ∷
    codes " 5 schedule line N: bad turn         spell line N as ddm help run says" ∷
    codes " 5 schedule line N: too many turns   1048576 are the most, with those before a" ∷
    codes "                                     checkpoint; for page, 100000" ∷
    codes " 5 schedule line N: no such hart     line N is for a larger tree" ∷
    codes " 5 schedule line N: no such bus      line N is for a larger tree" ∷
    codes " 5 schedule line N: no such child    line N is for a larger tree" ∷
    codes " 5 schedule line N: no end           end the file with a line end" ∷
    codes " 5 schedule line N: after end        take out what stands behind the line end" ∷
    codes " 6 cannot read the image             see that the file is there and may be read" ∷
    codes " 6 cannot read the tree              see that the file is there and may be read" ∷
    codes " 6 cannot read the schedule          see that the file is there and may be read" ∷
    codes " 6 cannot read the witness           see that the file is there and may be read" ∷
    codes " 6 cannot read the checkpoint        see that the file is there and may be read" ∷
    codes " 6 cannot read the test              see that the file is there and may be read" ∷
    codes " 6 cannot read table N               see that the file is there and may be read" ∷
    codes " 7 cannot write                      see that the disk has room and the reader" ∷
    codes "                                     goes on" ∷
    codes " 8 no memory                         let the process have more" ∷
    codes "10 witness: too long                 168820736 bytes are the most" ∷
    codes "10 witness line N: bad line          give op lines of a report alone, all whole" ∷
    codes "10 witness line N: too many lines    1048576 are the most" ∷
    codes "10 witness line N: not legal         the operation is not the next step of its" ∷
    codes "                                     hart: so the witness is wrong, or of" ∷
    codes "                                     another image or tree" ∷
    codes "11 checkpoint: too long              536870912 bytes are the most" ∷
    codes "11 checkpoint: not checkpoint        give a file that ddm save put out" ∷
    codes "11 checkpoint: wrong version N       save it with this version" ∷
    codes "11 checkpoint: cut WORD              the file ends early: save it again" ∷
    codes "11 checkpoint: other machine WORD    resume with the image and the tree that it" ∷
    codes "                                     was saved with" ∷
    codes "11 checkpoint: bad word WORD         the file was changed: save it again" ∷
    codes "11 checkpoint: after end             the file was changed: save it again" ∷
    codes "11 checkpoint: broken leaf LEAF      the file was changed: save it again" ∷
    codes "11 checkpoint: broken rule BUS ITEM  the file was changed: save it again" ∷
    codes "11 checkpoint: broken stamp BUS      the file was changed: save it again" ∷
    codes "11 checkpoint: broken key OPERATION  the file was changed: save it again" ∷
    codes "12 small lists: KEY                  give this list in the tree eight places an" ∷
    codes "                                     item, an item for each line `item` of ddm" ∷
    codes "                                     run" ∷
    codes "13 litmus: too long                  65536 bytes are the most" ∷
    codes "13 litmus line N: WHAT               write line N as herd7 reads RISC-V of 32" ∷
    codes "                                     bits" ∷
    codes "13 litmus: too many observed N       64 registers and locations are the most" ∷
    codes "13 litmus: too many locations N      256 are the most" ∷
    codes "13 litmus: too many threads N        give a tree with N leaves or more" ∷
    codes "13 litmus: other places N            name N leaves, one for each thread" ∷
    codes "13 litmus: no leaf N                 the tree's leaves are counted from 0 on" ∷
    codes "15 table N: too long                 67108864 bytes are the most" ∷
    codes "15 table N line L: bad line          give tables as ddm outcomes or ddm survey" ∷
    codes "                                     puts them out" ∷
    codes "15 table N line L: no end            the file ends early: make the table again" ∷
    codes "15 table N line L: after end         take out what stands behind the line end" ∷
    codes "15 table N: other kind               join tables of outcomes and survey apart" ∷
    codes "15 table N: too many runs            18446744073709551615 are the most" ∷
    [])

-- the commands
abbrev pub help_text : List ℕ
help_text = lines_of (
    codes "ddm runs RV32IA programs on a Data Diffusion Machine; every run is one order of one flat memory." ∷
    codes "" ∷
    codes "  ddm run IMAGE TREE SCHEDULE      the report of a run: harts, traffic, items and the witness" ∷
    codes "  ddm trace IMAGE TREE SCHEDULE    a line for each turn, and then the report" ∷
    codes "  ddm seed IMAGE TREE SEED TURNS   the report of the schedule of a seed" ∷
    codes "  ddm schedule TREE SEED TURNS     the schedule of a seed" ∷
    codes "  ddm make SEED ROUNDS TREE        the summary of a random program under a seeded schedule" ∷
    codes "  ddm check IMAGE TREE WITNESS     whether a witness is one legal run of the flat machine" ∷
    codes "  ddm unjam IMAGE TREE SCHEDULE    the turn of a bus that goes on where a leaf waits" ∷
    codes "  ddm save IMAGE TREE SCHEDULE     the checkpoint of the machine after a run" ∷
    codes "  ddm resume IMAGE TREE CHECKPOINT SCHEDULE" ∷
    codes "                                   the report of a run that goes on from a checkpoint" ∷
    codes "  ddm outcomes IMAGE TREE FIRST COUNT TURNS" ∷
    codes "                                   what the runs of many seeds come to" ∷
    codes "  ddm record IMAGE TREE KIND SEED TURNS" ∷
    codes "                                   the schedule of the turns of a seed that do something" ∷
    codes "  ddm measure IMAGE TREE KIND SEED TURNS" ∷
    codes "                                   what such a run is measured by" ∷
    codes "  ddm survey IMAGE TREE KIND FIRST COUNT TURNS" ∷
    codes "                                   what the recorded runs of many seeds come to" ∷
    codes "  ddm join TABLE TABLE ..          the table of all runs of several tables" ∷
    codes "  ddm page IMAGE TREE SCHEDULE     a page that shows the run turn by turn, for a browser" ∷
    codes "  ddm assemble FILE TREE [all] [PLACES]" ∷
    codes "                                   the image of a litmus test" ∷
    codes "  ddm help COMMAND                 more of one of these" ∷
    codes "  ddm --help, ddm --version" ∷
    [])

-- what is said of this alone
abbrev pub own_text : About → List ℕ
own_text about.Help = help_text
own_text about.Version = lines_of (
    codes "ddm 1" ∷
    [])
own_text about.Asking = lines_of (
    codes "ddm --help, ddm -h, ddm help   the commands" ∷
    codes "ddm help COMMAND               how a command is used, and what its files are" ∷
    codes "ddm COMMAND --help             the same, and so ddm COMMAND -h" ∷
    codes "ddm help faults                each line of a fault, and what to do" ∷
    codes "ddm help help                  how help is asked for" ∷
    codes "ddm --version                  the version" ∷
    [])
own_text about.Faults = faults_text
own_text about.Run = lines_of (
    codes "ddm run IMAGE TREE SCHEDULE" ∷
    codes "Makes the turns of a schedule file on the machine of an ELF image and a tree" ∷
    codes "file, and prints the report: harts, traffic, items and the witness." ∷
    [])
own_text about.Trace = lines_of (
    codes "ddm trace IMAGE TREE SCHEDULE" ∷
    codes "Makes the turns as run does, and prints a line for each with its answer, and" ∷
    codes "then the report." ∷
    [])
own_text about.Seed = lines_of (
    codes "ddm seed IMAGE TREE SEED TURNS" ∷
    codes "Makes the turns of a seeded schedule, and prints the report." ∷
    [])
own_text about.Schedule = lines_of (
    codes "ddm schedule TREE SEED TURNS" ∷
    codes "Prints the seeded schedule for a tree." ∷
    [])
own_text about.Make = lines_of (
    codes "ddm make SEED ROUNDS TREE" ∷
    codes "Runs a random program, the same for every hart, under a seeded schedule of 20" ∷
    codes "turns a round and 1000, and prints the summary." ∷
    [])
own_text about.Check = lines_of (
    codes "ddm check IMAGE TREE WITNESS" ∷
    codes "Judges the operation lines of a report by the flat machine alone, and prints" ∷
    codes "how many are legal." ∷
    [])
own_text about.Unjam = lines_of (
    codes "ddm unjam IMAGE TREE SCHEDULE" ∷
    codes "Makes the turns as run does, and prints the first turn of a bus that would be" ∷
    codes "granted where a leaf waits, or none. Down, requests and replies of the tree" ∷
    codes "need at least eight places for each item." ∷
    [])
own_text about.Save = lines_of (
    codes "ddm save IMAGE TREE SCHEDULE" ∷
    codes "Makes the turns as run does, and puts out the checkpoint: the bytes of a file" ∷
    codes "that tells the machine and its counts." ∷
    [])
own_text about.Resume = lines_of (
    codes "ddm resume IMAGE TREE CHECKPOINT SCHEDULE" ∷
    codes "Makes the turns of a schedule file on the machine of a checkpoint of the same" ∷
    codes "image and tree, and prints the report of all turns together: those before the" ∷
    codes "checkpoint are counted, and with them there are at most 1048576." ∷
    [])
own_text about.Outcomes = lines_of (
    codes "ddm outcomes IMAGE TREE FIRST COUNT TURNS" ∷
    codes "Runs the seeded schedules of COUNT seeds from FIRST on, of TURNS turns each," ∷
    codes "and prints each different outcome: how many seeds gave it, the smallest of" ∷
    codes "these, and of each hart how it ended and what it put out." ∷
    [])
own_text about.Record = lines_of (
    codes "ddm record IMAGE TREE KIND SEED TURNS" ∷
    codes "Makes the turns of a seed, and prints the schedule of those that do something," ∷
    codes "until there are TURNS of them, every hart has halted, or 16777216 turns in a" ∷
    codes "row did nothing. KIND is even, or skewed: each turn of the tree has a rate of" ∷
    codes "the seed's." ∷
    [])
own_text about.Measure = lines_of (
    codes "ddm measure IMAGE TREE KIND SEED TURNS" ∷
    codes "Makes the turns of a seed as record does, and prints what the run came to: how" ∷
    codes "it ended, and how many turns did what; of each hart its loads and stores, its" ∷
    codes "misses and upgrades; of each bus its traffic; how long each list was at most;" ∷
    codes "and of each item how often it was missed and moved." ∷
    [])
own_text about.Survey = lines_of (
    codes "ddm survey IMAGE TREE KIND FIRST COUNT TURNS" ∷
    codes "Makes the runs of COUNT seeds from FIRST on, each as record does, and prints" ∷
    codes "each different end: how many seeds gave it, the smallest of these, why the run" ∷
    codes "ended (halted, turns, stuck or drawn), and of each hart how it ended and what" ∷
    codes "it put out." ∷
    [])
own_text about.Join = lines_of (
    codes "ddm join TABLE TABLE .." ∷
    codes "Prints the table of all runs of 2 to 256 tables, each of 64 MiB at most: what" ∷
    codes "ddm outcomes printed, or what ddm survey did. Where no seed is in two of them" ∷
    codes "it is the table of all these seeds." ∷
    [])
own_text about.Page = lines_of (
    codes "ddm page IMAGE TREE SCHEDULE" ∷
    codes "Makes the turns as run does, and prints an HTML page that shows each of them in" ∷
    codes "a browser. There are at most 100000 turns." ∷
    [])
own_text about.Assemble = lines_of (
    codes "ddm assemble FILE TREE [PLACES], ddm assemble FILE TREE all [PLACES]" ∷
    codes "Puts out the image of a litmus test of RISC-V, in the format of herd7: the" ∷
    codes "bytes of an ELF file, which other commands run. PLACES are the leaves of the" ∷
    codes "threads, 0,2; without them thread K is on leaf K. In the image for the runs of" ∷
    codes "seeds, each thread first loads what it will use, and waits; with all it" ∷
    codes "doesn't." ∷
    [])

-- what is said after it, of each command
abbrev pub further_text : About → List ℕ
further_text about.Help = []
further_text about.Version = []
further_text about.Asking = []
further_text about.Faults = []
further_text command = named_text

abbrev pub about_text : About → List ℕ
about_text a = own_text a ++ further_text a
