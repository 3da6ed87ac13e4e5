-- What is said of the program itself (docs/FORMATS.md, "The words of zitilook").
use Rattle.std.specs.Prelude.{ℕ, List, ◌++◌, codes}
use Rattle.zitilook.specs.declared.words.Page.{Page}
use Rattle.zitilook.specs.declared.words.Page.TheVariants.{Help, Version}

-- A page: a line for each word and for each kind, or the version of the lines.
abbrev pub page_text : Page → List ℕ
page_text Help =
    codes "usage: zitilook WORD, in the folder that is looked at\n"
    ++ (codes "list KIND             the records of a kind, a line each\n"
    ++ (codes "show KIND NAME        one of them by its name; terminators and circuits by their numbers\n"
    ++ (codes "why IDENTITY SERVICE  each rule of a circuit of the two, and what meets or fails it\n"
    ++ (codes "who SERVICE           the identities that may dial a service, and the policies that grant it\n"
    ++ (codes "dump                  lines of the commands that make the like of the folder's state\n"
    ++ (codes "picture [CIRCUIT]     the network as Mermaid, and in it the way of the circuit of this number\n"
    ++ (codes "doctor                what is wrong with the files of the folder, and the way back\n"
    ++ (codes "diff OTHER            the changes that lead from its state to that of the folder OTHER, a line each\n"
    ++ (codes "plan                  what the commands of the lines on standard input would change, and which are refused\n"
    ++ (codes "help                  these lines\n"
    ++ (codes "version               the version of the lines\n"
    ++ codes "KIND is identities, services, routers, links, service-policies, edge-router-policies, service-edge-router-policies, terminators, circuits or intercepts\n")))))))))))
page_text Version = codes "zitilook 1\n"
